-- The specification's call, plain list and image are those that every function of the library is proved against, for the player and for the desk: the
-- call for every map, call and shadow, the plain list under a good map, the image of a placed list. Assumes nothing.
use mathlib.Core.Path.{◌≡◌, sym, ◌∙◌}
use mathlib.Core.Bool.{true, false}
use mathlib.Core.List.{List}
use lib.Dec.{eqb}
use Rattle.number.proofs.TestLaws.{Test, is_true, is_false, test}
use Rattle.map.specs.declared.Map.{Map}
use Rattle.map.specs.declared.Form as kind
use Rattle.map.specs.declared.Form.TheVariants.{Player, Desk}
use Rattle.map.specs.FormMap as library
use Rattle.map.specs.FormMap.{under}
use Rattle.map.specs.Map.{good_map}
use Rattle.plain.specs.Areas.{map_rules}
use Rattle.plain.specs.Block.{Block}
use Rattle.plain.specs.Call.{Call, clear, begin, free, remove, written, ask, valid, initialised, next, audit, place, Answer, refusal}
use Rattle.plain.specs.PlainList.{plain_step}
use Rattle.plain.specs.Rules.{Placed}
use Rattle.shadows.specs.Shadows as shadows
use Rattle.monitor_base.specs.Calls as base
use Rattle.specification.specs.Map.{Shadows}
use Rattle.specification.specs.Heap.{player}
use Rattle.specification.specs.Desk.{desk}
use Rattle.specification.specs.Calls as calls
use Rattle.specification.specs.Audit as audits
use Rattle.specification.specs.Place as places
use Rattle.specification.specs.Image.{image}
use Rattle.specification.specs.PlainList.{on_list}
use Rattle.specification.specs.Call.{call, form_of}
use Rattle.specification.proofs.Forms.{form}
pub use Rattle.specification.proofs.MapSame.{good-same, lengths-same}
use Rattle.specification.proofs.CallSame.{clear-same, free-same, remove-same, written_same, ask-same, valid_same, initialised-same, next-same}
use Rattle.specification.proofs.BeginSame.{begin-same}
use Rattle.specification.proofs.PlaceSame.{place_same}
use Rattle.specification.proofs.AuditSame.{audit-same}
pub use Rattle.specification.proofs.CallSame.{reading-same}
pub use Rattle.specification.proofs.ListSame.{list_same}
pub use Rattle.specification.proofs.ImageSame.{image_same}
pub use Rattle.specification.proofs.AuditSame.{stand-placed, placed-stand}

-- 1, of every call
module _ (f : kind.Form) (m : Map) (s : Shadows) (bad : good_map (under f m) ≡ false) where
  refused : (c : Call) → call (form f) m c s ≡ (s, refusal 1)
  unfolding call calls.clear calls.begin calls.free calls.remove calls.written calls.ask calls.valid calls.initialised calls.next audits.audit places.place
  refused clear = rw (good-same f m, bad)
  refused (begin h b l) = rw (good-same f m, bad)
  refused (free x) = go (test (eqb x 0))
    where
      go : Test (eqb x 0) → calls.free (form f) m x s ≡ (s, refusal 1)
      go (is_true e) = rw (e, good-same f m, bad)
      go (is_false e) = rw (e, good-same f m, bad)
  refused (remove x) = rw (good-same f m, bad)
  refused (written a n) = rw (good-same f m, bad)
  refused (ask a) = rw (good-same f m, bad)
  refused (valid w a n from) = rw (good-same f m, bad)
  refused (initialised a n) = rw (good-same f m, bad)
  refused (next a) = rw (good-same f m, bad)
  refused audit = rw (good-same f m, bad)
  refused (place l k) = rw (good-same f m, bad)

  library-refused : (c : Call) → base.call (under f m) c s ≡ (s, refusal 1)
  unfolding base.call
  library-refused c = rw bad

module _ (f : kind.Form) (m : Map) where
  when-good : good_map (under f m) ≡ true → (c : Call) (s : Shadows) → call (form f) m c s ≡ base.call (under f m) c s
  unfolding call
  when-good g clear s = clear-same f m s g
  when-good g (begin h b l) s = begin-same f m s g h b l
  when-good g (free x) s = free-same f m s g x
  when-good g (remove x) s = remove-same f m s g x
  when-good g (written a n) s = written_same f m s g a n
  when-good g (ask a) s = ask-same f m s g a
  when-good g (valid w a n from) s = valid_same f m s g w a n from
  when-good g (initialised a n) s = initialised-same f m s g a n
  when-good g (next a) s = next-same f m s g a
  when-good g audit s = audit-same f m s g
  when-good g (place l k) s = place_same f m s l k

  pub call_same : (c : Call) (s : Shadows) → call (form f) m c s ≡ base.call (under f m) c s
  call_same c s = go (test (good_map (under f m)))
    where
      go : Test (good_map (under f m)) → call (form f) m c s ≡ base.call (under f m) c s
      go (is_true g) = when-good g c s
      go (is_false b) = refused f m s b c ∙ sym (library-refused f m s b c)

-- ---- by form

pub player-call : (m : Map) (c : Call) (s : Shadows) → call player m c s ≡ base.call (library.player m) c s
player-call m c s = call_same Player m c s

pub player-list : (m : Map) → good_map (library.player m) ≡ true → (c : Call) (bs : List Block) → on_list player m c bs ≡ plain_step (map_rules (library.player m)) c bs
player-list m = list_same Player m

pub player-image : (m : Map) (bs : List Block) → good_map (library.player m) ≡ true → Placed (map_rules (library.player m)) 0 bs
    → image player m bs ≡ shadows.image (library.player m) bs
player-image m bs = image_same Player m bs

pub desk-call : (m : Map) (c : Call) (s : Shadows) → call desk m c s ≡ base.call (library.desk m) c s
desk-call m c s = call_same Desk m c s

pub desk-list : (m : Map) → good_map (library.desk m) ≡ true → (c : Call) (bs : List Block) → on_list desk m c bs ≡ plain_step (map_rules (library.desk m)) c bs
desk-list m = list_same Desk m

pub desk-image : (m : Map) (bs : List Block) → good_map (library.desk m) ≡ true → Placed (map_rules (library.desk m)) 0 bs
    → image desk m bs ≡ shadows.image (library.desk m) bs
desk-image m bs = image_same Desk m bs

-- of the form that the code is handed
pub of-form : (f : kind.Form) (m : Map) (c : Call) (s : Shadows) → call (form_of f) m c s ≡ base.call (under f m) c s
of-form Player m c s = player-call m c s
of-form Desk m c s = desk-call m c s

pub said_of : (f : kind.Form) (m : Map) (c : Call) (s : Shadows) (x : Shadows × Answer) → x ≡ base.call (under f m) c s → x ≡ call (form_of f) m c s
said_of f m c s x e = e ∙ sym (of-form f m c s)
