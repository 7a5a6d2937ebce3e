-- What a turn's parts say together. Assumes nothing.
use mathlib.Core.Path.{◌≡◌, ap, ◌∙◌}
use mathlib.Core.Bool.{true, false}
use mathlib.Core.List.{List, ◌++◌}
use mathlib.Core.Logic.{◌≢◌}
use mathlib.Core.Option.{Option, none, some}
use Prim.Native.Nat.{ℕ, ◌-◌, ◌≤◌}
use native.Mathlib.Omega.{arith}
use lib.ListN.{length}
use Rattle.map.specs.declared.Map.{Map}
use Rattle.plain.specs.Call as plain
use Rattle.monitor_base.specs.declared.Answer.{Answer}
use Rattle.monitor_base.specs.Answers.{answer_of}
use Rattle.calls_format.specs.Lines.{line}
use Rattle.calls_format.specs.Program.{Program, Whole, undecodable}
use Rattle.calls_window.specs.declared.Window.{Window}
use Rattle.calls_window.specs.Window.{content, Refilled}
use Rattle.calls_window.proofs.WindowLaws.{content-length, content-short, content-past}
use Rattle.calls_output.specs.declared.Pending.{Pending}
use Rattle.calls_output.specs.Pending.{Waits, Added}
use Rattle.calls_output.proofs.PendingLaws.{text-as, pending-as}
use Rattle.calls_run.specs.Told.{Told}
use Rattle.calls_file.specs.Turn.{Point, Does, Turned}

module _ {P : Program} (W : Whole P) where
  -- the bytes of a record that was decoded from the window are in it
  pub record-fits : (w : Window) (l : List ℕ) (r : P.Request) → P.decode (content w l) ≡ some r → P.size r ≤ w.end - w.at
  record-fits w l r e = omega (arith, W.there (content w l) r e, content-short w l)

  -- the first record of a refilled window is that of the input: where there may be more, whatever comes changes nothing
  pub first-whole : (w r : Window) (entry exit coming : List ℕ) → Refilled w r (length exit) entry exit → r.more ≡ true
      → P.decode (content r exit ++ coming) ≡ P.decode (content r exit)
  first-whole w r entry exit coming h m =
      W.front (content r exit) coming (omega (arith, content-length r exit h.held, h.long m))

-- ---- the three ways of a turn

module _ {P : Program} (a b : Point P) (w : Window) (h : Refilled a.run.window w 65536 a.bytes b.bytes) where
  does-as : (o : Option P.Request) → P.decode (content w b.bytes) ≡ o → Does a b (content w b.bytes) o
      → Does a b (content w b.bytes) (P.decode (content w b.bytes))
  does-as o e d = rw e d

  -- nothing was left
  pub turned-end : w.at ≡ w.end → Waits a.run.pending 65536 → b.state ≡ a.state → b.lines ≡ a.lines
      → b.run.window ≡ w → b.run.pending ≡ a.run.pending → b.run.on ≡ false → Turned a b
  turned-end z v s l e p f =
      record {
        goes = rw (e, p) (h.held, v);
        window = w;
        refilled = h;
        more = ap (λ (x : Window). x.more) e;
        ends = λ _. (f, s, p, l);
        does = λ n. absurd (n z);
      }

  -- the first record was undecodable
  pub turned_none : (p : Pending) → w.at ≢ w.end → P.decode (content w b.bytes) ≡ none → Added a.run.pending p undecodable 65536 a.lines b.lines
      → b.state ≡ a.state → b.run.window ≡ w → b.run.pending ≡ p → b.run.on ≡ false → Turned a b
  turned_none p n d t s e q f =
      record {
        goes = rw (e, q) (h.held, t.lies);
        window = w;
        refilled = h;
        more = ap (λ (x : Window). x.more) e;
        ends = λ z. absurd (n z);
        does = λ _. does-as none d (f, s, pending-as b.run.pending q t);
      }

  -- the first record was served
  pub turned-some : Whole P → (r : P.Request) (k i : ℕ) (m : Map) (x : Answer) → w.at ≢ w.end → P.decode (content w b.bytes) ≡ some r
      → ((y : plain.Answer) → line k y ≡ P.line r y) → i ≡ P.size r → Told a.run w k i m x b.run a.lines b.lines
      → (b.state, answer_of x) ≡ P.serve r a.state → Turned a b
  turned-some W r k i m x n d ek ei t s =
      let fits = record-fits W w b.bytes r d in
      record {
        goes = ((omega (arith, t.past.from, t.past.to, h.held.0, fits, ei), omega (arith, t.past.to, h.held.1)), t.adds.lies);
        window = w;
        refilled = h;
        more = t.past.more;
        ends = λ z. absurd (n z);
        does =
            λ _. does-as (some r) d (
              t.goes,
              ap (λ (y : P.State × _). y.0) s,
              content-past w b.run.window i (P.size r) b.bytes (h.held.0, omega arith) (omega (arith, fits, ei)) t.past.from t.past.to ei,
              text-as _ _ (ek (answer_of x) ∙ ap (λ (y : P.State × plain.Answer). P.line r y.1) s) t.adds,
            );
      }
