-- The ways to record, proved: see specs/Begun.antt for what each says. Assumes nothing.
use mathlib.Core.Path.{◌≡◌, refl, sym, ◌∙◌}
use mathlib.Core.Bool.{true, false, not, ◌&&◌}
use Prim.Native.Nat.{ℕ, zero, suc, ◌≤◌}
use native.Mathlib.Omega.{arith}
use lib.ListN.{length-replicate}
use borrow.Author.Tests.{not-false, eqb-false, ne_eqb}
use Rattle.number.proofs.TestLaws.{and-true}
use Rattle.map.specs.FormMap.{FormMap}
use Rattle.map.specs.Map.{good_map}
use Rattle.types.specs.declared.Beginning.{Beginning}
use Rattle.types.specs.declared.Beginning.TheVariants.{Unwritten, Written}
use Rattle.plain.specs.Block.{starts_written, starts_literal, begun}
use Rattle.plain.specs.Rules.{Proper}
use Rattle.plain.specs.Areas.{map_rules}
use Rattle.plain.specs.Reading.{Reading, nothing, block, damaged}
use Rattle.plain.specs.Ops.{read_any}
use Rattle.plain.specs.Call.{begin, record_block, record_written, written, number, done, first_of, unless, allows}
use Rattle.plain.specs.ShadowCalls.{in_one, is_damaged, is_literal, shadow_step}
use Rattle.plain.proofs.KeptLaws.{base-inside}
use Rattle.plain.proofs.RunLaws.{begun-proper}
use Rattle.plain.proofs.StampedLaws.{Stands, begin-marked}
use Rattle.shadows.specs.Shadows.{Shadows, lengths_fit, shadow_ops}
use Rattle.shadows.proofs.ShadowLaws.{Fit, fit-true, true-fit, map-sound, shadow-stamped}
use Rattle.monitor_base.specs.Calls.{refusals, call}
use Rattle.monitor_base.proofs.CallLaws.{call_step}
use Rattle.demands.specs.Begun.{AnswersOfRecord, RecordThenWritten}
use Rattle.demands.proofs.Numbers.{number-first, none-holds}

pub answers_of_record : (m : FormMap) → AnswersOfRecord m
unfolding call
answers_of_record m b l s = go (first_of (refusals m (record_block b l) s)) _ _
  where
    -- the refusals ask no more of how the block begins than whether it is a literal
    go : (k : ℕ) (t u : Shadows) → (unless k s (t, done)).1 ≡ (unless k s (u, done)).1
    go zero t u = refl
    go (suc k) t u = refl

module _ (m : FormMap) (h : Beginning) (b l : ℕ) (s : Shadows) (e : number (call m (begin h b l) s).1 ≡ 0) where
  -- what an accepted recording says of map, lengths and block
  pub record Accepted : Type 0 where
    pub good : good_map m ≡ true
    pub fit : Fit m s
    pub some : 1 ≤ l
    pub fits : (map_rules m).fits b l ≡ true
    pub aligned : (map_rules m).aligned b ≡ true
    pub proper : Proper (map_rules m) (begun h b l)

  pub accepted : Accepted
  accepted =
      let (one, (two, (three, (four, (five, six))))) = none-holds m (begin h b l) s refl e in
      let (fits, proper) = and-true ((map_rules m).fits b l) (not (starts_literal h && (map_rules m).heap b)) (not-false (allows (map_rules m) h b l) four) in
      record {
        good = not-false (good_map m) one;
        fit = fit-true m s (not-false (lengths_fit m s) two);
        some = omega (arith, eqb-false l 0 three);
        fits = fits;
        aligned = not-false ((map_rules m).aligned b) five;
        proper = begun-proper (map_rules m) h b l proper;
      }

  pub stands : Stands (map_rules m) (begun h b l)
  stands =
      let n = length-replicate l (starts_written h) in
      record { some = rw n accepted.some; fits = rw n accepted.fits; aligned = accepted.aligned; proper = accepted.proper }

  pub began : call m (begin h b l) s ≡ ((shadow_ops m).stamp s (begun h b l), done)
  unfolding call
  began = let z : first_of (refusals m (begin h b l) s) ≡ 0 = sym (number-first m (begin h b l) s) ∙ e in rw z

  -- the block is there, and its bytes lie in it
  there : in_one l (read_any (map_rules m) (shadow_ops m) ((shadow_ops m).stamp s (begun h b l)) b) ≡ true
  unfolding read_any
  there =
      let ok = accepted.good in
      rw (base-inside (map_rules m) (map-sound m ok) b l accepted.some accepted.fits)
      (rw (length-replicate l (starts_written h)) at ((shadow-stamped m ok).stamp-read s accepted.fit (begun h b l) stands))

-- a reading of a block is not damaged
undamaged : (l : ℕ) (r : Reading) → in_one l r ≡ true → is_damaged r ≡ false
undamaged l nothing i = refl
undamaged l (block x y o w t) i = refl
undamaged l damaged i = sym i

module _ (m : FormMap) (b l : ℕ) (s : Shadows) (e : number (call m (record_block b l) s).1 ≡ 0) where
  e' : number (call m (record_written b l) s).1 ≡ 0
  e' = number-first m (record_written b l) s ∙ sym (number-first m (record_block b l) s) ∙ e

  abbrev after : Shadows
  after = (shadow_ops m).stamp s (begun Unwritten b l)

  plainly : is_literal (read_any (map_rules m) (shadow_ops m) after b) ≡ false
  unfolding read_any
  plainly =
      let A = accepted m Unwritten b l s e in
      rw (base-inside (map_rules m) (map-sound m A.good) b l A.some A.fits)
      ((shadow-stamped m A.good).stamp-literal s A.fit (begun Unwritten b l) (stands m Unwritten b l s e))

  pub written_after : call m (written b l) (call m (record_block b l) s).0 ≡ ((call m (record_written b l) s).0, done)
  unfolding shadow_step
  written_after =
      let A = accepted m Unwritten b l s e in
      let ok = A.good in
      let t = there m Unwritten b l s e in
      let fits : lengths_fit m after ≡ true = true-fit m after ((shadow-stamped m ok).stamp-fit s A.fit (begun Unwritten b l)) in
      rw (
        began m Unwritten b l s e,
        began m Written b l s e',
        call_step m (written b l) after ok fits,
        ne_eqb l 0 (omega (arith, A.some)),
        base-inside (map_rules m) (map-sound m ok) b l A.some A.fits,
        undamaged l (read_any (map_rules m) (shadow_ops m) after b) t,
        t,
        plainly,
        begin-marked (map_rules m) (shadow_ops m) (Fit m) (shadow-stamped m ok) s A.fit Unwritten refl b l (stands m Unwritten b l s e),
      )

pub record_then_written : (m : FormMap) → RecordThenWritten m
record_then_written m b l s e = written_after m b l s e
