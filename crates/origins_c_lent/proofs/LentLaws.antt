-- An answer in a lent array is the answer. Assumes nothing.
use mathlib.Core.Path.{◌≡◌, sym, ap, ◌∙◌}
use mathlib.Core.List.{List}
use Prim.Native.Nat.{ℕ}
use Rattle.map.specs.declared.Map.{Map}
use Rattle.plain.specs.Call as plain
use Rattle.monitor_base.specs.declared.Answer.{Answer}
use Rattle.monitor_base.specs.Answers.{answer_of}
use Rattle.monitor_c_lent.specs.Lent.{answered}
use Rattle.origins_list.specs.Call.{Call}
use Rattle.origins_base.specs.Answers.{lent, outcome, outcome_at}
use Rattle.origins_base.specs.Calls.{State, call}
use Rattle.specification_origins.specs.Origins as specification
use Rattle.specification_origins.proofs.OriginsSame.{call_same}
use Rattle.origins_base.specs.declared.Counted.{Counted}
use Rattle.origins_c_lent.specs.Lent.{left}

-- the call under the map that the lent array stands for
pub under : (x : State × plain.Answer) (m m' : Map) (d : Call) (entry : State) → x ≡ call m d entry → m ≡ m' → x ≡ call m' d entry
under x m m' d entry f g = f ∙ ap (λ (n : Map). call n d entry) g

-- as the specification says it: of a call that leaves the counter
pub spoken : (r : Answer) (n : ℕ) (fields h p s x y h' p' s' x' y' : List ℕ) (m m' : Map) (d : Call)
    → answered n fields ≡ answer_of r → ((k : ℕ) → outcome_at k r h p s x y ≡ call m d (lent h' p' s' x' y' k)) → m ≡ m'
    → (k : ℕ) → left n fields h p s x y k ≡ specification.call m' d (lent h' p' s' x' y' k)
spoken r n fields h p s x y h' p' s' x' y' m m' d e f g k =
    ap (λ (a : plain.Answer). (lent h p s x y k, a)) e
    ∙ (under (outcome_at k r h p s x y) m m' d (lent h' p' s' x' y' k) (f k) g ∙ sym (call_same m' d (lent h' p' s' x' y' k)))

-- of a call that takes an origin
pub carried : (r : Counted) (n k : ℕ) (fields h p s x y : List ℕ) (m m' : Map) (d : Call) (entry : State)
    → (answered n fields ≡ answer_of r.answer) × (k ≡ r.counter) → outcome r h p s x y ≡ call m d entry → m ≡ m'
    → left n fields h p s x y k ≡ specification.call m' d entry
carried r n k fields h p s x y m m' d entry e f g =
    ap (λ (a : plain.Answer). (lent h p s x y k, a)) e.0
    ∙ (ap (λ (j : ℕ). (lent h p s x y j, answer_of r.answer)) e.1
    ∙ (under (outcome r h p s x y) m m' d entry f g ∙ sym (call_same m' d entry)))
