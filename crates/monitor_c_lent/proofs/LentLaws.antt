-- An answer in a lent array is the answer. Assumes nothing.
use mathlib.Core.Path.{◌≡◌, sym, ap, ◌∙◌}
use mathlib.Core.List.{List}
use Prim.Native.Nat.{ℕ}
use lib.ListN.{length, set}
use Rattle.number.proofs.LittleLaws.{set4}
use Rattle.map.specs.declared.Form.{Form}
use Rattle.map.specs.declared.Map.{Map}
use Rattle.map.specs.FormMap.{under}
use Rattle.plain.specs.Call as plain
use Rattle.plain.specs.Call.{answer}
use Rattle.shadows.specs.Shadows.{Shadows}
use Rattle.monitor_base.specs.declared.Answer.{Answer}
use Rattle.monitor_base.specs.Answers.{answer_of, outcome}
use Rattle.monitor_base.specs.Calls.{call}
use Rattle.specification.specs.Call as specification
use Rattle.specification.specs.Call.{form_of}
use Rattle.specification.proofs.Same.{of-form}
use Rattle.monitor_c_lent.specs.Lent.{answered, left}

pub stored : (l : List ℕ) (k a b c d : ℕ) → length l ≡ 4 → answered k (set (set (set (set l 0 a) 1 b) 2 c) 3 d) ≡ answer k a b c d
stored l k a b c d h = ap (answered k) (set4 l a b c d h)

-- the call under the map that the lent array stands for
pub lent : (x : Shadows × plain.Answer) (form : Form) (m m' : Map) (d : plain.Call) (entry : Shadows) → x ≡ call (under form m) d entry → m ≡ m' → x ≡ call (under form m') d entry
lent x form m m' d entry f g = f ∙ ap (λ (n : Map). call (under form n) d entry) g

-- as the specification says it
pub spoken : (form : Form) (r : Answer) (k : ℕ) (fields h p s : List ℕ) (m m' : Map) (d : plain.Call) (entry : Shadows)
    → answered k fields ≡ answer_of r → outcome r h p s ≡ call (under form m) d entry → m ≡ m'
    → left k fields h p s ≡ specification.call (form_of form) m' d entry
spoken form r k fields h p s m m' d entry e f g =
    ap (λ (x : plain.Answer). ((h, (p, s)), x)) e ∙ (lent (outcome r h p s) form m m' d entry f g ∙ sym (of-form form m' d entry))
