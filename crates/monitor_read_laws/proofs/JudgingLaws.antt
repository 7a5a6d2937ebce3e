-- What two readings say of n bytes: by tests that are known, and told by addresses. Assumes nothing.
use mathlib.Core.Path.{◌≡◌, refl, sym, ◌∙◌}
use mathlib.Core.Bool.{Bool, true, false, not, ◌&&◌, ◌||◌, false≢true}
use Prim.Native.Nat.{ℕ, ◌+◌}
use native.Mathlib.Omega.{arith}
use lib.Dec.{leb}
use Rattle.number.proofs.TestLaws.{Test, is_true, is_false, test, and_false_r, eqb_same}
use Rattle.plain.specs.Call.{Answer, refusal, yes_no}
use Rattle.plain.specs.Lift.{reading_up}
use Rattle.plain.specs.Reading.{Reading, nothing, block, damaged}
use Rattle.plain.specs.ShadowCalls.{is_damaged, in_one, is_literal, same_block}
use Rattle.monitor_read_laws.specs.Asked.{valid_answer, apart_answer, initialised_answer}

-- ---- the answers, by tests that are known

module _ (r q : Reading) (d e : Bool) (ed : d ≡ is_damaged r) (ee : e ≡ is_damaged q) where
  pub apart-damaged : (d || e) ≡ true → (x : Answer) → x ≡ refusal 8 → x ≡ apart_answer r q
  unfolding apart_answer
  apart-damaged h x y = rw (← ed, ← ee, h) y

  pub apart-whole : (d || e) ≡ false → (x : Answer) → x ≡ yes_no false → x ≡ apart_answer r q
  unfolding apart_answer
  apart-whole h x y = rw (← ed, ← ee, h) y

module _ (w : Bool) (n : ℕ) (r q : Reading) (i k : Bool) (ei : i ≡ in_one n r) (ek : k ≡ same_block r q) where
  -- in one block, where the mark decides of bytes that are to be written
  pub valid-one : (i && k) ≡ true → (l : Bool) → l ≡ is_literal r → (x : Answer) → x ≡ yes_no (not (w && l)) → x ≡ valid_answer w n r q
  unfolding valid_answer
  valid-one h l el x y = go r q (rw (ei, ek) at h) (rw el at y)
    where
      go : (r q : Reading) → (in_one n r && same_block r q) ≡ true → x ≡ yes_no (not (w && is_literal r)) → x ≡ valid_answer w n r q
      go nothing q h y = absurd (false≢true h)
      go damaged q h y = absurd (false≢true h)
      go (block b l o m t) nothing h y = absurd (false≢true (sym (and_false_r (leb (o + n) l) false refl) ∙ h))
      go (block b l o m t) damaged h y = absurd (false≢true (sym (and_false_r (leb (o + n) l) false refl) ∙ h))
      go (block b l o m t) (block c k j v u) h y = rw h y

  pub valid-zero : (i && k) ≡ false → (x : Answer) → x ≡ apart_answer r q → x ≡ valid_answer w n r q
  unfolding valid_answer apart_answer
  valid-zero h x y = rw (← ei, ← ek, h) y

pub initialised-in : (n : ℕ) (r : Reading) (t k : Bool) → in_one n r ≡ true → k ≡ t → (x : Answer) → x ≡ yes_no k → x ≡ initialised_answer n r t
unfolding initialised_answer
initialised-in n nothing t k i e x y = absurd (false≢true i)
initialised-in n damaged t k i e x y = absurd (false≢true i)
initialised-in n (block b l o m u) t k i e x y = rw (i, ← e) y

pub initialised-out : (n : ℕ) (r : Reading) (t : Bool) → in_one n r ≡ false → (x : Answer) → x ≡ apart_answer r nothing → x ≡ initialised_answer n r t
unfolding initialised_answer apart_answer
initialised-out n nothing t i x y = y
initialised-out n damaged t i x y = y
initialised-out n (block b l o m u) t i x y = rw i y

-- ---- readings told by addresses

pub up-damaged : (a : ℕ) (r : Reading) → is_damaged (reading_up a r) ≡ is_damaged r
up-damaged a nothing = refl
up-damaged a (block b l o w t) = refl
up-damaged a damaged = refl

pub up_one : (n a : ℕ) (r : Reading) → in_one n (reading_up a r) ≡ in_one n r
up_one n a nothing = refl
up_one n a (block b l o w t) = refl
up_one n a damaged = refl

up_same : (a : ℕ) (r q : Reading) → same_block (reading_up a r) (reading_up a q) ≡ same_block r q
up_same a nothing q = refl
up_same a damaged q = refl
up_same a (block b l o w t) nothing = refl
up_same a (block b l o w t) damaged = refl
up_same a (block b l o w t) (block c k i v u) = rw (eqb_same (a + b) (a + c) b c (λ e. omega arith) (λ e. omega arith))

up-literal : (a : ℕ) (r : Reading) → is_literal (reading_up a r) ≡ is_literal r
up-literal a nothing = refl
up-literal a (block b l o w t) = refl
up-literal a damaged = refl

-- in one area
pub valid-up : (w : Bool) (n a : ℕ) (r q : Reading) → valid_answer w n (reading_up a r) (reading_up a q) ≡ valid_answer w n r q
unfolding valid_answer
valid-up w n a r q = rw (up-damaged a r, up-damaged a q, up_one n a r, up_same a r q, up-literal a r)

-- where no literal lies, what may be read may be written
pub valid-any : (w : Bool) (n : ℕ) (r q : Reading) → is_literal r ≡ false → valid_answer w n r q ≡ valid_answer false n r q
unfolding valid_answer
valid-any w n r q e = rw (e, and_false_r w false refl)

-- in no common area: R and Q are r and q, told by addresses
pub valid-apart : (w : Bool) (n : ℕ) (r q R Q : Reading) → is_damaged R ≡ is_damaged r → is_damaged Q ≡ is_damaged q → same_block R Q ≡ false
    → (x : Answer) → x ≡ apart_answer r q → x ≡ valid_answer w n R Q
unfolding valid_answer apart_answer
valid-apart w n r q R Q er eq e x y = y ∙ go (test (in_one n R))
  where
    go : Test (in_one n R) → apart_answer r q ≡ valid_answer w n R Q
    go (is_true i) = rw (er, eq, i, e)
    go (is_false i) = rw (er, eq, i)
