-- Demand 1 over the specification, proved for both forms: see `FirstVote` of crates/specification/specs/Votes.antt. Assumes nothing.
use mathlib.Core.Path.{◌≡◌, refl}
use Prim.Native.Nat.{ℕ, zero, suc}
use Rattle.map.specs.declared.Form as kind
use Rattle.map.specs.FormMap.{under}
use Rattle.types.specs.Call.{Answer, unless}
use Rattle.demands.proofs.Demand1.{refused_alters_nothing}
use Rattle.demands.proofs.Alters.{lengths_kept}
use Rattle.specification.specs.Map.{Map, Shadows}
use Rattle.specification.specs.Calls as calls
use Rattle.specification.specs.Audit as audits
use Rattle.specification.specs.Place as places
use Rattle.specification.specs.Call.{call}
use Rattle.specification.specs.Votes.{FirstVote}
use Rattle.specification.proofs.Forms.{form}
use Rattle.specification.proofs.Same.{call_same}
use Rattle.specification.proofs.ByTable.{by_the_table, accepted_only, accepted_if}
use Rattle.promises.proofs.BytesKept.{bytes_kept}

-- what leaves the shadows where it is accepted leaves them
kept : (k : ℕ) (s : Shadows) (r : Answer) → (unless k s (s, r)).0 ≡ s
kept zero s r = refl
kept (suc k) s r = refl

pub first-vote : (f : kind.Form) (m : Map) → FirstVote (form f) m
unfolding call calls.ask calls.valid calls.initialised calls.next audits.audit places.place
first-vote f m =
    record {
      refused_alters_nothing = λ c s. rw (call_same f m c s) (refused_alters_nothing (under f m) c s);
      by_the_table = by_the_table (form f) m;
      accepted_only = accepted_only (form f) m;
      accepted_if = accepted_if (form f) m;
      lengths_kept = λ c s. rw (call_same f m c s) (lengths_kept (under f m) c s);
      bytes_kept = λ c s. rw (call_same f m c s) (bytes_kept (under f m) c s);
      ask_alters_nothing = λ a s. rw kept;
      valid_alters_nothing = λ w a n from s. rw kept;
      initialised_alters_nothing = λ a n s. rw kept;
      next_alters_nothing = λ a s. rw kept;
      audit_alters_nothing = λ s. rw kept;
      place_alters_nothing = λ L k s. rw kept;
    }
