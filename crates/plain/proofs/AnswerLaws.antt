-- An accepted call has number 0, on shadows of whatever layout. Assumes nothing.
use mathlib.Core.Path.{◌≡◌, refl}
use mathlib.Core.List.{List}
use mathlib.Core.Option.{Option, none, some}
use Prim.Native.Nat.{ℕ}
use lib.ListN.{length}
use Rattle.plain.specs.Rules.{Rules}
use Rattle.plain.specs.Reading.{Reading, nothing, block, damaged, Tally, tally}
use Rattle.plain.specs.Gaps.{Gap}
use Rattle.plain.specs.Ops.{Ops}
use Rattle.plain.specs.Call.{Call, clear, begin, free, remove, written, ask, valid, initialised, next, audit, place, number}
use Rattle.plain.specs.Placing.{looked_at, chosen, place_of, place_answer}
use Rattle.plain.specs.ShadowCalls.{ask_answer, next_answer, audit_answer, reading, search, shadow_answer}

pub place-0 : (G l k : ℕ) (gaps : List Gap) → number (place_answer G l k gaps) ≡ 0
place-0 G l k gaps = go (chosen G l (looked_at k gaps))
  where
    go : (o : Option Gap) → number (place_of G l (length (looked_at k gaps)) o) ≡ 0
    go none = refl
    go (some g) = refl

pub accepted-0 : {S : Type 0} (R : Rules) (O : Ops S) (c : Call) (s : S) → number (shadow_answer R O c s) ≡ 0
accepted-0 R O clear s = refl
accepted-0 R O (begin h b l) s = refl
accepted-0 R O (free x) s = refl
accepted-0 R O (remove x) s = refl
accepted-0 R O (written a n) s = refl
accepted-0 R O (ask a) s = go (reading R O s a)
  where
    go : (r : Reading) → number (ask_answer r) ≡ 0
    go nothing = refl
    go (block b l o m t) = refl
    go damaged = refl
accepted-0 R O (valid w a n from) s = refl
accepted-0 R O (initialised a n) s = refl
accepted-0 R O (next a) s = go (search R O s a)
  where
    go : (r : Reading) → number (next_answer r) ≡ 0
    go nothing = refl
    go (block b l o m t) = refl
    go damaged = refl
accepted-0 R O audit s = go (O.audit s)
  where
    go : (t : Option Tally) → number (audit_answer t) ≡ 0
    go none = refl
    go (some (tally h k l w)) = refl
accepted-0 R O (place l k) s = place-0 R.segment l k (O.gaps s)
