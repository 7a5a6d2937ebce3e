-- The number of a record on the shadows of one area, by what the code tests. Assumes nothing.
use mathlib.Core.Path.{◌≡◌, refl, sym, ap}
use mathlib.Core.Bool.{true, false}
use mathlib.Core.Logic.{◌≢◌}
use mathlib.Core.List.{List}
use Prim.Native.Nat.{ℕ, ◌+◌, ◌%◌, ◌≤◌, ◌<◌}
use native.Mathlib.Omega.{arith}
use lib.ListN.{length}
use borrow.Author.Tests.{eq-eqb, ne_eqb}
use Rattle.number.proofs.TestLaws.{and-true, false_of}
use Rattle.types.specs.declared.Beginning.TheVariants.{Unwritten}
use Rattle.plain.specs.Areas.{heap_rules, stack_rules}
use Rattle.plain.specs.Call.{record_block, allows}
use Rattle.plain.proofs.AreaLaws.{heap-span, span-heap, stack-span, span-stack}
use Rattle.heap_layout.specs.Ops.{heap_vacant}
use Rattle.stack_layout.specs.Ops.{StackShadows, stack_vacant}
use Rattle.monitor_write_laws.specs.AreaCalls.{on_heap, on_stack}
use Rattle.monitor_write_laws.proofs.StepLaws.{begin-4, begin-5, begin-6, begin-0}
use Rattle.monitor_write_laws.proofs.CheckLaws.{told}

module _ (W G : ℕ) (h : List ℕ) (b l : ℕ) (some : 1 ≤ l) where
  abbrev heap_number : ℕ
  heap_number = told (on_heap W G (record_block b l) h)

  module _ (z : ℕ) where
    heap-fits : G ≤ b → b + l ≤ z → allows (heap_rules G 0 z) Unwritten b l ≡ true
    heap-fits x y = rw (span-heap G 0 z b l (record { from = omega arith; to = omega arith; begins = omega arith }))

    heap-misfits : (G ≤ b → b + l ≤ z → ⊥) → allows (heap_rules G 0 z) Unwritten b l ≡ false
    heap-misfits n = false_of _ (λ f. let t = heap-span G 0 z b l (and-true _ true f).0 in n (omega arith) (omega arith))

  pub heap-4 : (G ≤ b → b + l ≤ length h → ⊥) → 4 ≡ heap_number
  heap-4 n = sym (ap told (begin-4 _ _ h Unwritten b l (λ e. omega arith) (heap-misfits (length h) n)))

  module _ (x : G ≤ b) (y : b + l ≤ length h) where
    pub heap-5 : b % G ≢ 0 → 5 ≡ heap_number
    heap-5 n = sym (ap told (begin-5 _ _ h Unwritten b l (λ e. omega arith) (heap-fits (length h) x y) (ne_eqb (b % G) 0 n)))

    pub heap-6 : b % G ≡ 0 → heap_vacant W G h b l ≡ false → 6 ≡ heap_number
    heap-6 a v = sym (ap told (begin-6 _ _ h Unwritten b l (λ e. omega arith) (heap-fits (length h) x y) (eq-eqb (b % G) 0 a) v))

    pub heap-0 : b % G ≡ 0 → heap_vacant W G h b l ≡ true → 0 ≡ heap_number
    heap-0 a v = sym (ap told (begin-0 _ _ h Unwritten b l (λ e. omega arith) (heap-fits (length h) x y) (eq-eqb (b % G) 0 a) v _ refl))

module _ (s : StackShadows) (b l : ℕ) (some : 1 ≤ l) where
  abbrev stack_number : ℕ
  stack_number = told (on_stack (record_block b l) s)

  pub stack-4 : length s.0 < b + l → 4 ≡ stack_number
  stack-4 n =
      sym
      (ap told
      (begin-4 _ _ s Unwritten b l (λ e. omega arith)
      (false_of _ (λ f. let t = stack-span 0 (length s.0) b l (and-true _ true f).0 in omega arith))))

  module _ (y : b + l ≤ length s.0) where
    stack-fits : allows (stack_rules 0 (length s.0)) Unwritten b l ≡ true
    stack-fits = rw (span-stack 0 (length s.0) b l (record { from = omega arith; to = omega arith; begins = omega arith }))

    pub stack-6 : stack_vacant s b l ≡ false → 6 ≡ stack_number
    stack-6 v = sym (ap told (begin-6 _ _ s Unwritten b l (λ e. omega arith) stack-fits refl v))

    pub stack-0 : stack_vacant s b l ≡ true → 0 ≡ stack_number
    stack-0 v = sym (ap told (begin-0 _ _ s Unwritten b l (λ e. omega arith) stack-fits refl v _ refl))
