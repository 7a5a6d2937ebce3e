-- A run grows by a turn, and prints what the file prints. Assumes nothing.
use mathlib.Core.Path.{◌≡◌, refl, sym, ap, ◌∙◌}
use mathlib.Core.Bool.{true, true≢false}
use mathlib.Core.List.{List, [], ◌∷◌, ◌++◌}
use Prim.Native.Nat.{ℕ, ◌+◌}
use native.Mathlib.Omega.{arith}
use lib.ListN.{length, length-append}
use Rattle.calls_format.specs.Program.{Program, Whole}
use Rattle.calls_run.specs.declared.Run.{Run}
use Rattle.calls_run.specs.Begun.{Begun}
use Rattle.calls_file.specs.Turn.{Point, Goes, Turned}
use Rattle.calls_file.specs.File.{printed_file, Turns, came, put, final}
use Rattle.calls_file.specs.Ran.{Ran, RanPrints}
use Rattle.calls_file.proofs.FileLaws.{whole-file}

-- the buffers hold nothing yet
pub begun-goes : (r : Run) → Begun r → Goes r
begun-goes r b = ((omega (arith, b.1, b.2), omega (arith, b.2)), omega (arith, b.4))

module _ {P : Program} where
  final-more : (p q : Point P) (ps : List (Point P)) → final p (ps ++ (q ∷ [])) ≡ q
  final-more p q [] = refl
  final-more p q (r ∷ rs) = final-more r q rs

  turns_more : (p q : Point P) (ps : List (Point P)) → Turns p ps → (final p ps).run.on ≡ true → Turned (final p ps) q → length q.bytes ≡ 65536
      → Turns p (ps ++ (q ∷ []))
  turns_more p q [] t o d s = record { on = o; turned = d; sized = s; later = tt }
  turns_more p q (r ∷ rs) t o d s = record { on = t.on; turned = t.turned; sized = t.sized; later = turns_more r q rs t.later o d s }

  -- before any turn
  pub ran-none : (p : Point P) → Begun p.run → p.state ≡ P.first → Ran p 0
  ran-none p b f = record { from = p; begun = b; first = f; between = []; each = tt; last = refl; many = refl }

  -- one more
  pub ran-more : (p q : Point P) (n : ℕ) → Ran p n → p.run.on ≡ true → Turned p q → length q.bytes ≡ 65536 → Ran q (n + 1)
  ran-more p q n R o d s =
      record {
        from = R.from;
        begun = R.begun;
        first = R.first;
        between = R.between ++ (q ∷ []);
        each = turns_more R.from q R.between R.each (rw R.last o) (rw R.last d) s;
        last = final-more R.from q R.between;
        many = omega (arith, length-append R.between (q ∷ []), R.many);
      }

  pub ran-prints : Whole P → RanPrints P
  ran-prints W q n R rest h = go R.between R.each R.last
    where
      go : (ps : List (Point P)) (t : Turns R.from ps) → final R.from ps ≡ q
          → put R.from ps t ≡ printed_file P (came R.from ps t ++ rest)
      go [] t e = absurd (true≢false (sym R.begun.6 ∙ ap (λ (x : Point P). x.run.on) e ∙ h.0))
      go (r ∷ rs) t e = whole-file W R.from r rs t rest (R.first, R.begun.4, R.begun.1 ∙ sym R.begun.2) (rw e h)
