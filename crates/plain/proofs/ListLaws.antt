-- The blocks of a list one by one, and how many they are. Assumes nothing.
use mathlib.Core.Path.{◌≡◌, refl, subst}
use mathlib.Core.Bool.{Bool, true, false, cond}
use mathlib.Core.List.{List, [], ◌∷◌}
use mathlib.Core.Option.{some}
use Prim.Native.Nat.{ℕ, ◌-◌}
use native.Mathlib.Omega.{arith}
use lib.ListN.{length}
use Rattle.plain.specs.Block.{Block}
use Rattle.plain.specs.Blocks.{find, Has, here, there, total, count}

pub find-has : (q : Block → Bool) (bs : List Block) (b : Block) → find q bs ≡ some b → Has b bs × (q b ≡ true)
unfolding find
find-has q [] b e = absurd (let z : ◌≡◌ {A = ℕ} 0 1 = cc in omega arith)
find-has q (c ∷ cs) b e = go (q c) refl e (find-has q cs b)
  where
    go : (t : Bool) → q c ≡ t → cond t (some c) (find q cs) ≡ some b → (find q cs ≡ some b → Has b cs × (q b ≡ true)) → Has b (c ∷ cs) × (q b ≡ true)
    go true h e ih = let s : c ≡ b = cc in subst (λ (d : Block). Has d (c ∷ cs) × (q d ≡ true)) s (here, h)
    go false h e ih = let r = ih e in (there r.0, r.1)

-- ---- counts

pub all-count : (p : ℕ → Bool) → ((a : ℕ) → p a ≡ true) → (bs : List Block) → count p bs ≡ length bs
unfolding total
all-count p h [] = refl
all-count p h (b ∷ bs) = rw (h b.base) (omega (arith, all-count p h bs))

pub none-count : (p : ℕ → Bool) → ((a : ℕ) → p a ≡ false) → (bs : List Block) → count p bs ≡ 0
unfolding total
none-count p h [] = refl
none-count p h (b ∷ bs) = rw (h b.base) (omega (arith, none-count p h bs))
