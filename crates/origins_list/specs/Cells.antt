-- What cells hold, as a function of their addresses: 0 where there is nothing. And the laws that every layout of cells meets. Assumes nothing.
use Rattle.std.specs.Prelude.{◌≡◌, Bool, true, cond, ◌&&◌, ℕ, ◌+◌, ◌-◌, ◌%◌, ◌<◌, ◌≤◌, ltb, eqb}
use Rattle.origins_list.specs.CellOps.{CellOps}

-- for each cell what it holds
abbrev pub Held : Type 0
Held = ℕ → ℕ

abbrev pub empty : Held
empty c = 0

-- the cell holds the value, every other one what it held
abbrev pub put : (cell value : ℕ) → Held → Held
put c v f x = cond (eqb x c) v (f x)

-- one of a cell's four bytes is a byte of the block
abbrev pub touches : (base length cell : ℕ) → Bool
touches b l c = ltb c (b + l) && ltb b (c + 4)

-- the cells that touch the block hold nothing
abbrev pub cut : (base length : ℕ) → Held → Held
cut b l f x = cond (touches b l x) 0 (f x)

-- the cell that an address lies in
abbrev pub cell_of : ℕ → ℕ
cell_of a = a - a % 4

-- a cell's half has four bytes
abbrev pub Small : Held → Type 0
Small f = (c : ℕ) → f c < 4294967296

-- on the image of what cells hold each operation does what it should. Interface of the proofs: no demand rests on it
pub record CellImages (inside : ℕ → Bool) (fits : ℕ → ℕ → Bool) {C : Type 0} (X : CellOps C) (image : (origins referents : Held) → C) : Type 0 where
  pub image_same : (f g f' g' : Held) → ((c : ℕ) → f c ≡ f' c) → ((c : ℕ) → g c ≡ g' c) → image f g ≡ image f' g'
  pub image_cleared : image empty empty ≡ X.cleared
  pub image_origin : (f g : Held) → Small f → (a : ℕ) → inside a ≡ true → X.origin (image f g) a ≡ f (cell_of a)
  pub image_referent : (f g : Held) → Small g → (a : ℕ) → inside a ≡ true → X.referent (image f g) a ≡ g (cell_of a)
  pub image_set_origin : (f g : Held) (a v : ℕ) → inside a ≡ true → X.set_origin (image f g) a v ≡ image (put (cell_of a) v f) g
  pub image_set_referent : (f g : Held) (a v : ℕ) → inside a ≡ true → X.set_referent (image f g) a v ≡ image f (put (cell_of a) v g)
  pub image_zeroed : (f g : Held) (b l : ℕ) → 1 ≤ l → fits b l ≡ true → X.zeroed (image f g) b l ≡ image (cut b l f) (cut b l g)
