-- A deallocation that isn't undefined in the first run is none in the second.
use Rattle.std.proofs.Common.{◌≡◌, ℕ, Bool, true, false, List, Option, Some}
use Rattle.std.proofs.Common.{None, Result, Ok, Err, refl, sym, ap, ◌∙◌, subst, ◌&&◌, ◌==◌, if◌then◌else◌}
use Rattle.std.proofs.lemmas.Bool.{eqb-true, false≢true}
use Rattle.std.specs.Prelude.{slice_get}
use Rattle.pass_kept_proof.specs.ir_base.declared.cause.Cause.{Cause}
use Rattle.pass_kept_proof.specs.ir_model.Names.{function_at}
use Rattle.pass_kept_proof.specs.ir_model.declared.instr.Instr.{Instr}
use Rattle.pass_kept_proof.specs.ir_model.declared.module.Module.{Module}
use Rattle.run_laws.specs.memory.Pointers.{Home, IsValue, home_of}
use Rattle.pass_kept_proof.specs.run_memory.Memory.{disown, kill}
use Rattle.pass_kept_proof.specs.run_memory.Pointers.{moved}
use Rattle.pass_kept_proof.specs.run_memory.declared.block.Kind.{Kind}
use Rattle.pass_kept_proof.specs.run_memory.declared.block.MemoryBlock.{MemoryBlock}
use Rattle.pass_kept_proof.specs.run_memory.declared.pointer.Offset.{Offset}
use Rattle.pass_kept_proof.specs.run_memory.declared.pointer.Pointer.{Pointer}
use Rattle.pass_kept_proof.specs.run_memory.declared.pointer.Value.{Value}
use Rattle.pass_kept_proof.specs.run_source.Source.{deallocate, if_let_go, let_go, may_be_freed}
use Rattle.pass_kept_proof.specs.run_source.State.{began_at, instance_at, last_from, next, with_memory}
use Rattle.pass_kept_proof.specs.run_source.declared.state.Instance.{Instance}
use Rattle.pass_kept_proof.specs.run_source.declared.state.State.{State}
use Rattle.pass_kept_proof.specs.run_step.Results.{and_then}
use Rattle.pass_kept_proof.specs.run_step.Step.{deallocated, without_slots}
use Rattle.pass_renewed_proof.proofs.Finishing.{found_in}
use Rattle.pass_renewed_proof.proofs.Freeing.{both_found, found_passes, killed_at, let_go_beside, may'}
use Rattle.pass_renewed_proof.proofs.Freeing.{may_same, plain_home, plain_kill}
use Rattle.pass_renewed_proof.proofs.Giving.{gives_beside}
use Rattle.pass_renewed_proof.proofs.Owning.{found_beside}
use Rattle.pass_renewed_proof.specs.Beside.{IsBeside, IsInstanceBeside}
use Rattle.pass_renewed_proof.specs.Found.{AreFound}
use Rattle.pass_renewed_proof.specs.Ledger.{Ledger}
use Rattle.pass_renewed_proof.specs.Making.{IsGiving}
use Rattle.pass_renewed_proof.specs.Renewed.{Flags, Roots}
use Rattle.pass_renewed_proof.specs.SlotRules.{KeepsSlots}

module _ (m : Module) (flags : Flags) (roots : Roots) (keeps : (func : ℕ)
    → KeepsSlots m (function_at m func) (flags func) (roots func)) (i : Instr) (s t : State) (beside : IsBeside m flags
    roots s t) (giving : IsGiving m roots s.top i None) where
  abbrev l : Ledger
  l = beside.ledger

  abbrev Goes : State → Result State Cause → Type 0
  Goes after r = (other : State) × (r ≡ Ok other) × IsBeside m flags roots after other

  abbrev end_with : State → Result (List MemoryBlock) Cause → Result State Cause
  end_with z r = and_then r (λ memory. Ok (next (with_memory z memory)))

  same_ok : {a b : State} → ◌≡◌ {A = Result State Cause} (Ok a) (Ok b) → a ≡ b
  same_ok q = cc

  abbrev at : ℕ → Offset → Value
  at b o = Value.Ptr (Pointer.At b o)

  module _ (b : ℕ) (o : Offset) (q : Value) (k : IsValue beside.ledger.homes (Value.Ptr (Pointer.At b o)) q) (after :
      State) where
    -- no instance is let go in either
    stays : if_let_go t (instance_at t.instances q) ≡ t → end_with s (kill s.world.memory (at b o) Kind.Allocator) ≡ Ok
        after → Goes after (deallocate t q)
    stays same e = on (kill s.world.memory (at b o) Kind.Allocator) refl e
      where
        on : (r : Result (List MemoryBlock) Cause) → kill s.world.memory (at b o) Kind.Allocator ≡ r → end_with s r ≡ Ok
            after → Goes after (deallocate t q)
        on (Err cause) is h = absurd (cc)
        on (Ok n) is h =
            let g = plain_kill m flags roots keeps i s t beside giving b o k.0 n (killed_at s.world.memory b o n is) q
            k.1 in
            subst (λ z. Goes z (deallocate t q)) (same_ok h) (
              g.0,
              ap (λ z. and_then (deallocated z.world.memory q) (λ memory. Ok (next (with_memory z memory)))) same ∙ g.1,
              g.2,
            )

    none_found : instance_at s.instances (at b o) ≡ None → (n : List MemoryBlock) → kill s.world.memory (at b o)
        Kind.Allocator ≡ Ok n → instance_at t.instances q ≡ None
    none_found none n is =
        let z = killed_at s.world.memory b o n is in
        let home = plain_home m flags roots keeps i s t beside giving b o k.0 n z in
        let f = both_found m flags roots keeps i s t beside giving b o z.start home.0 home.1 in
        ap (instance_at t.instances) (k.1 ∙ ap (λ (h : Home). Value.Ptr (Pointer.At h.block (moved o h.offset))) home.1)
        ∙ subst (λ u. AreFound m flags roots l s.world.memory u (instance_at t.instances (Value.Ptr (Pointer.At home.0
        (moved o 0))))) none f

    -- ---- by the instance that is found

    abbrev by_instance : Option (ℕ × Instance) → Result State Cause
    by_instance r = end_with (if_let_go s r) (kill (if_let_go s r).world.memory (at b o) Kind.Allocator)

    -- it isn't let go
    kept : (n : ℕ) (x y : Instance) → instance_at t.instances q ≡ Some (n, y)
        → IsInstanceBeside m flags roots beside.ledger s.world.memory n x y → may_be_freed x ≡ false
        → by_instance (Some (n, x)) ≡ Ok after → Goes after (deallocate t q)
    kept n x y found h not_free e = stays
        (ap (if_let_go t) found ∙ ap (λ u. if u then let_go t n y else t) (may_same m flags roots keeps i s t beside
        giving n x y h ∙ not_free))
        (ap (λ u. end_with (if u then let_go s n x else s) (kill (if u then let_go s n x else s).world.memory (at b o)
        Kind.Allocator)) (sym not_free) ∙ e)

    -- it is
    goes : (n : ℕ) (x y : Instance) → slice_get s.instances n ≡ Some x → slice_get t.instances n ≡ Some y
        → instance_at t.instances q ≡ Some (n, y) → IsInstanceBeside m flags roots beside.ledger s.world.memory n x y
        → x.block ≡ b → may_be_freed x ≡ true → by_instance (Some (n, x)) ≡ Ok after → Goes after (deallocate t q)
    goes n x y there there' found h began may e = on (kill (let_go s n x).world.memory (at b o) Kind.Allocator) refl
        (ap (λ u. end_with (if u then let_go s n x else s) (kill (if u then let_go s n x else s).world.memory (at b o)
        Kind.Allocator)) (sym may) ∙ e)
      where
        on : (r : Result (List MemoryBlock) Cause) → kill (let_go s n x).world.memory (at b o) Kind.Allocator ≡ r
            → end_with (let_go s n x) r ≡ Ok after → Goes after (deallocate t q)
        on (Err cause) is k' = absurd (cc)
        on (Ok z) is k' =
            let here = ap (λ d. kill (disown (without_slots s.world.memory x.slots) d) (at b o) Kind.Allocator) (sym
            began) ∙ is in
            let home : home_of l.homes b ≡ record { block = h.block; offset = 0; is_seen = true } = ap (home_of l.homes)
            (sym began) ∙ h.home in
            let q_is : q ≡ Value.Ptr (Pointer.At y.block (moved o 0)) = k.1 ∙ ap (λ (w : Home). Value.Ptr (Pointer.At
            w.block (moved o w.offset))) home ∙ ap (λ (w : Instance). Value.Ptr (Pointer.At w.block (moved o 0))) (sym
            h.is) in
            let g = let_go_beside m flags roots keeps i s t beside giving b o n x y there there' h began may z
            (killed_at (disown (without_slots s.world.memory x.slots) b) b o z here) q q_is in
            subst (λ w. Goes w (deallocate t q)) (same_ok k') (
              g.0,
              ap (λ r. and_then (deallocated (if_let_go t r).world.memory q) (λ memory. Ok (next (with_memory
                  (if_let_go t r) memory)))) found
                  ∙ ap (λ u. and_then (deallocated (if u then let_go t n y else t).world.memory q) (λ memory. Ok (next
                  (with_memory (if u then let_go t n y else t) memory)))) (may' m flags roots keeps i s t beside giving
                  b o n x y there there' h began may) ∙ g.1,
              g.2,
            )

    at_block : deallocate s (at b o) ≡ Ok after → Goes after (deallocate t q)
    at_block e = on (instance_at s.instances (at b o)) refl e
      where
        on : (r : Option (ℕ × Instance)) → instance_at s.instances (at b o) ≡ r → by_instance r ≡ Ok after
            → Goes after (deallocate t q)
        on None none h = by_kill (kill s.world.memory (at b o) Kind.Allocator) refl h
          where
            by_kill : (r : Result (List MemoryBlock) Cause) → kill s.world.memory (at b o) Kind.Allocator ≡ r
                → end_with s (kill s.world.memory (at b o) Kind.Allocator) ≡ Ok after → Goes after (deallocate t q)
            by_kill (Err cause) is k' = let c : end_with s (Err cause) ≡ Ok after = ap (end_with s) (sym is) ∙ k' in
                absurd (cc)
            by_kill (Ok n) is k' = stays (ap (if_let_go t) (none_found none n is)) k'
        on (Some r) found h =
            let f = found_beside m flags roots s t beside (at b o) q k r found in
            let began = found_passes (began_at b o.bits) s.instances r found in
            let first : r.1.block ≡ b = eqb-true r.1.block b (both_first (r.1.block == b) _ began) in
            by_may (may_be_freed r.1) refl f first
          where
            both_first : (a c : Bool) → (a && c) ≡ true → a ≡ true
            both_first true c e = refl
            both_first false c e = absurd (false≢true e)

            by_may : (u : Bool) → may_be_freed r.1 ≡ u → AreFound m flags roots beside.ledger s.world.memory (Some r)
                (instance_at t.instances q) → r.1.block ≡ b → Goes after (deallocate t q)
            by_may false may f first = kept r.0 r.1 f.0 f.1 f.2 may h
            by_may true may f first = goes r.0 r.1 f.0 (found_in s.instances (last_from (began_at b o.bits) 0
                s.instances) r found) (other_there f.0 f.1) f.1 f.2 first may h
              where
                other_there : (y : Instance) → instance_at t.instances q ≡ Some (r.0, y) → slice_get t.instances r.0 ≡
                    Some y
                other_there y e = in_block q e
                  where
                    in_block : (v : Value) → instance_at t.instances v ≡ Some (r.0, y) → slice_get t.instances r.0 ≡
                        Some y
                    in_block (Value.Ptr (Pointer.At c p)) e = found_in t.instances (last_from (began_at c p.bits) 0
                        t.instances) (r.0, y) e
                    in_block (Value.Ptr Pointer.Null) e = absurd (cc)
                    in_block (Value.Ptr (Pointer.Func g)) e = absurd (cc)
                    in_block Value.Poison e = absurd (cc)
                    in_block (Value.Int n) e = absurd (cc)

  -- ---- any value

  pub deallocated_beside : (p q : Value) → IsValue beside.ledger.homes p q → (after : State)
      → deallocate s p ≡ Ok after → (other : State) × (deallocate t q ≡ Ok other) × IsBeside m flags roots after other
  deallocated_beside (Value.Ptr (Pointer.At b o)) q k after e = at_block b o q k after e
  deallocated_beside (Value.Ptr Pointer.Null) q k after e = (
    next t,
    ap (deallocate t) k.1,
    subst (λ z. IsBeside m flags roots z (next t)) (same_ok e) (gives_beside m flags roots keeps s t beside i None
        giving Value.Poison Value.Poison tt),
  )
  deallocated_beside (Value.Ptr (Pointer.Func g)) q k after e = absurd (cc)
  deallocated_beside (Value.Int n) q k after e = absurd (cc)
  deallocated_beside Value.Poison q k after e = absurd (cc)
