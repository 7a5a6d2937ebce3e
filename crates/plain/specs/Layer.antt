-- A list of blocks, seen place by place. Assumes nothing.
use Rattle.std.specs.Prelude.{Bool, cond, List, [], ◌∷◌, ℕ}
use Rattle.plain.specs.Block.{Block}

-- what the first block that covers place s makes of it, or z
unfoldable pub layer {ℓ} : {X : Type ℓ} → (covers : Block → ℕ → Bool) → (own : Block → ℕ → X) → X → List Block → ℕ → X
layer covers own z [] s = z
layer covers own z (b ∷ bs) s = cond (covers b s) (own b s) (layer covers own z bs s)
