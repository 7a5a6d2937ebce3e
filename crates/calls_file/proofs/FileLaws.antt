-- What the turns of a run put out is what the file prints. Assumes nothing.
use mathlib.Core.Path.{◌≡◌, refl, sym, ap, ◌∙◌}
use mathlib.Core.Bool.{true, false}
use mathlib.Core.List.{List, [], ◌∷◌, ◌++◌, append_assoc, append-nil}
use mathlib.Core.Logic.{◌≢◌}
use mathlib.Core.Option.{Option, none, some}
use Prim.Native.Nat.{ℕ, zero, suc, ◌+◌, ◌-◌, ◌≤◌}
use native.Mathlib.Omega.{arith}
use lib.ListN.{length, take, drop, length-append, length-take, length-drop, take-append-drop, drop_of_length-le}
use lib.Seq.{drop-append-le}
use lib.Dec.{leb, eqb}
use borrow.Author.Tests.{eq-eqb, ne_eqb, eqb-true, eqb-false}
use Rattle.number.proofs.TestLaws.{Test, is_true, is_false, test}
use Rattle.calls_format.specs.Program.{Program, Whole, undecodable, request_line}
use Rattle.calls_window.specs.Window.{content}
use Rattle.calls_window.proofs.WindowLaws.{content-length}
use Rattle.calls_output.specs.Pending.{waiting}
use Rattle.calls_file.specs.Turn.{Point, Turned, Does, left}
use Rattle.calls_file.specs.File.{printed_first, printed, Turns, got, came, waits, gone, put, final, Stops, WholeFile}
use Rattle.calls_file.proofs.TurnLaws.{first-whole}

module _ {P : Program} (W : Whole P) where
  -- ---- what bytes print

  -- more turns than bytes change nothing
  enough : (n m : ℕ) (s : P.State) (l : List ℕ) → length l ≤ n → length l ≤ m → printed P n s l ≡ printed P m s l
  unfolding printed
  enough zero zero s l a b = refl
  enough zero (suc m) s l a b = rw (eq-eqb (length l) 0 (omega arith))
  enough (suc n) zero s l a b = rw (eq-eqb (length l) 0 (omega arith))
  enough (suc n) (suc m) s l a b = go (enough n m) (test (eqb (length l) 0)) (P.decode l) refl
    where
      go : ((s : P.State) (l : List ℕ) → length l ≤ n → length l ≤ m → printed P n s l ≡ printed P m s l)
          → Test (eqb (length l) 0) → (o : Option P.Request) → P.decode l ≡ o → printed P (suc n) s l ≡ printed P (suc m) s l
      go ih (is_true t) o e = rw t
      go ih (is_false t) none e = rw (t, e)
      go ih (is_false t) (some r) e =
          let x = W.long l r e in
          let y = W.there l r e in
          let d = length-drop (P.size r) l in
          rw (t, e)
          (ap (λ x. request_line P r s ++ x)
          (ih (P.serve r s).0 (drop (P.size r) l) (omega (arith, x, y, d)) (omega (arith, x, y, d))))

  abbrev all : P.State → List ℕ → List ℕ
  all s l = printed P (length l) s l

  all_end : (s : P.State) (l : List ℕ) → length l ≡ 0 → all s l ≡ []
  unfolding printed
  all_end s l e = rw e

  one_more : (s : P.State) (l : List ℕ) (n : ℕ) → length l ≡ suc n → all s l ≡ printed_first P (printed P n) s l (P.decode l)
  unfolding printed
  one_more s l n e = rw (e, ne_eqb (length l) 0 (λ z. omega (arith, e, z)))

  all_none : (s : P.State) (l : List ℕ) → length l ≢ 0 → P.decode l ≡ none → all s l ≡ undecodable
  all_none s l z e = go (length l) refl
    where
      go : (n : ℕ) → length l ≡ n → all s l ≡ undecodable
      go zero q = absurd (z q)
      go (suc n) q = one_more s l n q ∙ rw e

  all-some : (s : P.State) (l : List ℕ) (r : P.Request) → P.decode l ≡ some r
      → all s l ≡ request_line P r s ++ all (P.serve r s).0 (drop (P.size r) l)
  all-some s l r e = go (length l) refl
    where
      go : (n : ℕ) → length l ≡ n → all s l ≡ request_line P r s ++ all (P.serve r s).0 (drop (P.size r) l)
      go zero q = absurd (omega (arith, W.long l r e, W.there l r e, q))
      go (suc n) q =
          let x = W.long l r e in
          let y = W.there l r e in
          let d = length-drop (P.size r) l in
          one_more s l n q
          ∙ rw e
          (ap (λ x. request_line P r s ++ x)
          (enough n (length (drop (P.size r) l)) (P.serve r s).0 (drop (P.size r) l) (omega (arith, x, y, d, q)) (omega arith)))

  -- ---- one turn

  pieces : (n : ℕ) (l c rest : List ℕ) → take n l ++ ((drop n l ++ c) ++ rest) ≡ l ++ (c ++ rest)
  pieces n l c rest =
      ap (λ (x : List ℕ). take n l ++ x) (append_assoc (drop n l) c rest)
      ∙ sym (append_assoc (take n l) (drop n l) (c ++ rest))
      ∙ ap (λ (x : List ℕ). x ++ (c ++ rest)) (take-append-drop n l)

  module _ (p q : Point P) (t : Turned p q) (sized : length q.bytes ≡ 65536) (X : List ℕ) (quiet : q.run.window.more ≡ false → X ≡ []) where
    -- the turn's window, as long as it says
    long : length (content t.window q.bytes) ≡ t.window.end - t.window.at
    long = content-length t.window q.bytes (rw sized t.refilled.held)

    silent : t.window.more ≡ false → X ≡ []
    silent e = quiet (t.more ∙ e)

    -- an empty window is at the input's end
    none-comes : t.window.at ≡ t.window.end → X ≡ []
    none-comes e = go (test t.window.more)
      where
        go : Test t.window.more → X ≡ []
        go (is_false m) = silent m
        go (is_true m) = absurd (omega (arith, t.refilled.long m, e))

    -- bytes that come later change nothing of the first record
    whole : P.decode (content t.window q.bytes ++ X) ≡ P.decode (content t.window q.bytes)
    whole = go (test t.window.more)
      where
        go : Test t.window.more → P.decode (content t.window q.bytes ++ X) ≡ P.decode (content t.window q.bytes)
        go (is_true m) = first-whole W p.run.window t.window p.bytes q.bytes X (rw sized t.refilled) m
        go (is_false m) = rw (silent m, append-nil (content t.window q.bytes))

    -- what is given to be written, and what stays before a text, are all that waited
    gone-stays : t.window.at ≢ t.window.end → gone p q t ++ waiting p.run.pending p.lines ≡ waits p
    gone-stays n = go (test (eqb t.window.at t.window.end)) (test (leb (p.run.pending.filled + 64) (length p.lines)))
      where
        go : Test (eqb t.window.at t.window.end) → Test (leb (p.run.pending.filled + 64) (length p.lines))
            → gone p q t ++ waiting p.run.pending p.lines ≡ waits p
        go (is_true e) r = absurd (n (eqb-true t.window.at t.window.end e))
        go (is_false e) (is_true r) = rw (e, r)
        go (is_false e) (is_false r) = rw (e, r) (append-nil (waits p))

    told : (text after : List ℕ) → t.window.at ≢ t.window.end → waits q ≡ waiting p.run.pending p.lines ++ text
        → gone p q t ++ (waits q ++ after) ≡ waits p ++ (text ++ after)
    told text after n h =
        rw h (ap (λ (x : List ℕ). gone p q t ++ x) (append_assoc (waiting p.run.pending p.lines) text after)
        ∙ sym (append_assoc (gone p q t) (waiting p.run.pending p.lines) (text ++ after))
        ∙ ap (λ (x : List ℕ). x ++ (text ++ after)) (gone-stays n))

    -- the turn was the last
    pub stop : q.run.on ≡ false → q.run.pending.open ≡ true
        → gone p q t ++ waits q ≡ waits p ++ all p.state (content t.window q.bytes ++ X)
    stop off still = go (test (eqb t.window.at t.window.end))
      where
        some-case : (o : Option P.Request) → t.window.at ≢ t.window.end → P.decode (content t.window q.bytes) ≡ o
            → Does p q (content t.window q.bytes) o
            → gone p q t ++ waits q ≡ waits p ++ all p.state (content t.window q.bytes ++ X)
        some-case none n e d =
            ap (λ (x : List ℕ). gone p q t ++ x) (sym (append-nil (waits q)))
            ∙ told undecodable [] n d.2.holds
            ∙ ap (λ (x : List ℕ). waits p ++ x)
            (sym (all_none p.state (content t.window q.bytes ++ X)
            (λ z. n (omega (arith, long, t.refilled.held.0, length-append (content t.window q.bytes) X, z))) (whole ∙ e)))
        some-case (some r) n e d = absurd (let u = d.0 in let z : ◌≡◌ {A = ℕ} 0 1 = cc in omega arith)

        go : Test (eqb t.window.at t.window.end) → gone p q t ++ waits q ≡ waits p ++ all p.state (content t.window q.bytes ++ X)
        go (is_true e) =
            let h = eqb-true t.window.at t.window.end e in
            let d = t.ends h in
            rw (e, d.2, d.3, all_end p.state (content t.window q.bytes ++ X) (omega (arith, long, h, length-append (content t.window q.bytes) X, ap length (none-comes h))))
            (sym (append-nil (waits p)))
        go (is_false e) =
            let n = eqb-false t.window.at t.window.end e in
            some-case (P.decode (content t.window q.bytes)) n refl (t.does n)

    -- the run went on
    pub next : q.run.on ≡ true → gone p q t ++ (waits q ++ all q.state (left q ++ X)) ≡ waits p ++ all p.state (content t.window q.bytes ++ X)
    next goes = go (test (eqb t.window.at t.window.end))
      where
        some-case : (o : Option P.Request) → t.window.at ≢ t.window.end → P.decode (content t.window q.bytes) ≡ o
            → Does p q (content t.window q.bytes) o
            → gone p q t ++ (waits q ++ all q.state (left q ++ X)) ≡ waits p ++ all p.state (content t.window q.bytes ++ X)
        some-case none n e d = absurd (let u = d.0 in let z : ◌≡◌ {A = ℕ} 0 1 = cc in omega arith)
        some-case (some r) n e d =
            let y = W.there (content t.window q.bytes) r e in
            told (request_line P r p.state) (all q.state (left q ++ X)) n d.3.holds
            ∙ ap (λ (x : List ℕ). waits p ++ x)
            (ap (λ (x : List ℕ). request_line P r p.state ++ x)
            (rw (d.1, d.2) (ap (all (P.serve r p.state).0) (sym (drop-append-le (P.size r) (content t.window q.bytes) X (omega (arith, y))))))
            ∙ sym (all-some p.state (content t.window q.bytes ++ X) r (whole ∙ e)))

        go : Test (eqb t.window.at t.window.end)
            → gone p q t ++ (waits q ++ all q.state (left q ++ X)) ≡ waits p ++ all p.state (content t.window q.bytes ++ X)
        go (is_true e) = absurd (let u = (t.ends (eqb-true t.window.at t.window.end e)).0 in let z : ◌≡◌ {A = ℕ} 0 1 = cc in omega arith)
        go (is_false e) =
            let n = eqb-false t.window.at t.window.end e in
            some-case (P.decode (content t.window q.bytes)) n refl (t.does n)

  -- ---- all turns

  -- after the input's end nothing comes
  got-none : (p q : Point P) (t : Turned p q) → p.run.window.more ≡ false → got p q t ≡ []
  got-none p q t m =
      let n : ℕ = p.run.window.end - p.run.window.at in
      let l : List ℕ = content t.window q.bytes in
      let e : take n l ≡ l = t.refilled.first ∙ sym (t.refilled.ended m).1 in
      drop_of_length-le l {i = n} (omega (arith, ap length e, length-take n l))

  silence : (p : Point P) (ps : List (Point P)) (t : Turns p ps) (rest : List ℕ) → ((final p ps).run.window.more ≡ false → rest ≡ [])
      → p.run.window.more ≡ false → came p ps t ++ rest ≡ []
  silence p [] t rest h m = h m
  silence p (q ∷ qs) t rest h m =
      rw (got-none p q t.turned m) (silence q qs t.later rest h (t.turned.more ∙ (t.turned.refilled.ended m).0))

  joined : (p q : Point P) (t : Turned p q) (c rest : List ℕ) → left p ++ ((got p q t ++ c) ++ rest) ≡ content t.window q.bytes ++ (c ++ rest)
  joined p q t c rest =
      ap (λ (x : List ℕ). x ++ ((got p q t ++ c) ++ rest)) (sym t.refilled.first)
      ∙ pieces (p.run.window.end - p.run.window.at) (content t.window q.bytes) c rest

  turns-print : (p q : Point P) (qs : List (Point P)) (t : Turns p (q ∷ qs)) (rest : List ℕ) → Stops (final q qs) rest
      → put p (q ∷ qs) t ≡ waits p ++ all p.state (left p ++ (came p (q ∷ qs) t ++ rest))
  turns-print p q [] t rest h =
      rw (joined p q t.turned [] rest) (stop p q t.turned t.sized rest h.2 h.0 h.1)
  turns-print p q (r ∷ rs) t rest h =
      rw (joined p q t.turned (came q (r ∷ rs) t.later) rest, turns-print q r rs t.later rest h)
      (next p q t.turned t.sized (came q (r ∷ rs) t.later ++ rest) (silence q (r ∷ rs) t.later rest h.2) t.later.on)

  pub whole-file : WholeFile P
  whole-file p q qs t rest b h =
      let z : p.run.window.end - p.run.window.at ≡ 0 = omega (arith, b.2) in
      turns-print p q qs t rest h ∙ rw (b.0, b.1, z)
