-- A marker of a slot that isn't made anew does the same in both runs.
use Rattle.std.proofs.Common.{◌≡◌, ℕ, Bool, true, false, List, length, Option, Some, None, refl, sym, ap, ◌∙◌}
use Rattle.std.proofs.Common.{subst}
use Rattle.std.proofs.lemmas.Bool.{false≢true}
use Rattle.std.specs.Prelude.{IsTrue, ℤ}
use Rattle.pass_kept_proof.specs.ir_model.Names.{function_at}
use Rattle.pass_kept_proof.specs.ir_model.Ty.{Ty}
use Rattle.pass_kept_proof.specs.ir_model.declared.instr.Instr.{Instr}
use Rattle.pass_kept_proof.specs.ir_model.declared.module.Function.{Function}
use Rattle.pass_kept_proof.specs.ir_model.declared.module.Module.{Module}
use Rattle.pass_kept_proof.specs.ir_model.declared.operand.Arg.{Arg}
use Rattle.pass_kept_proof.specs.ir_model.declared.operand.Callee.{Callee}
use Rattle.pass_kept_proof.specs.ir_model.declared.operand.Intrinsic.{Intrinsic}
use Rattle.pass_kept_proof.specs.ir_paths.Paths.{has_point}
use Rattle.frame_classes.specs.frame_slots.Uses.{ends_of}
use Rattle.run_laws.specs.memory.Pointers.{Home, IsValue, home_of}
use Rattle.pass_kept_proof.specs.run_memory.Memory.{end, ended, owner_rights, start, started, with_block}
use Rattle.pass_kept_proof.specs.run_memory.declared.block.MemoryBlock.{MemoryBlock}
use Rattle.pass_kept_proof.specs.run_memory.declared.pointer.Pointer.{Pointer}
use Rattle.pass_kept_proof.specs.run_memory.declared.pointer.Value.{Value}
use Rattle.pass_kept_proof.specs.run_source.State.{settled, work_of}
use Rattle.pass_kept_proof.specs.run_source.declared.state.Activation.{Activation}
use Rattle.pass_kept_proof.specs.run_source.declared.state.State.{State}
use Rattle.pass_kept_proof.specs.run_step.Step.{Action, AtInstr, Done, Work, action_of, block_of, on_block, set_memory}
use Rattle.pass_kept_proof.specs.run_step.Values.{Env, arg_values, nth, value_in}
use Rattle.pass_kept_proof.specs.run_step.declared.world.World.{World}
use Rattle.pass_renewed_proof.proofs.Alike.{IsAlike, alike_carried, alike_entered, alike_kept}
use Rattle.pass_renewed_proof.proofs.AlikeMarks.{dies_alike, ended_alike, started_alike, starts_alike}
use Rattle.pass_renewed_proof.proofs.Anew.{present_block}
use Rattle.pass_renewed_proof.proofs.Carried.{IsCarried, IsSlotKept, others_on, same_carried, same_kept}
use Rattle.pass_renewed_proof.proofs.History.{no_marker, no_start}
use Rattle.pass_renewed_proof.proofs.Markers.{ended_dead, ends, marked_value, marks_alone}
use Rattle.pass_renewed_proof.proofs.Onward.{calm}
use Rattle.pass_renewed_proof.proofs.Passing.{edge_on, passed_beside}
use Rattle.pass_renewed_proof.specs.Ahead.{IsNoStart}
use Rattle.pass_renewed_proof.specs.Beside.{IsBeside, place_in}
use Rattle.pass_renewed_proof.specs.Ledger.{AreEntered, IsMate, Ledger, Seat}
use Rattle.pass_renewed_proof.specs.Making.{IsMarkingOther}
use Rattle.pass_renewed_proof.specs.Muted.{muted}
use Rattle.pass_renewed_proof.specs.Places.{AreStanding}
use Rattle.pass_renewed_proof.specs.Renewed.{Flags, Roots}
use Rattle.pass_renewed_proof.specs.Steps.{AreOver}

module _ (m : Module) (flags : Flags) (roots : Roots) (s t : State) (beside : IsBeside m flags roots s t) (marker :
    Intrinsic) (slot : ℕ) (result : Option ℕ) (must_tail : Bool) (ty : Option Ty) (args : List Arg)
    (is : IsMarkingOther m flags roots s.top marker slot result must_tail ty args) where
  abbrev l : Ledger
  l = beside.ledger

  abbrev f : Function
  f = function_at m s.top.func

  abbrev i : Instr
  i = Instr.Call result must_tail ty (Callee.Intrinsic marker) args

  abbrev e : AreEntered m beside.ledger s.world.memory t.world.memory
  e = beside.entered

  st : AreStanding beside.ledger.homes (muted beside.ledger.hides s.world.memory) t.world.memory
  st = record { memory = beside.world.memory; nulls = beside.world.nulls; bounds = beside.world.bounds }

  -- no marker of a slot that may be made anew stands here
  not_this : (al : ℕ) → IsTrue (flags s.top.func al) → al ≡ slot → ⊥
  not_this al flagged same = false≢true (sym is.other.off ∙ ap (flags s.top.func) (sym same) ∙ flagged)

  no_start_of : (al : ℕ) → IsTrue (flags s.top.func al) → IsNoStart (function_at m s.top.func) al (place_in s.top)
  no_start_of al flagged = no_start f al (place_in s.top) (λ x. not_this al flagged (marks_alone f (place_in s.top)
      marker Intrinsic.LifetimeStart slot al result must_tail ty args is.here is.takes x))

  no_end_of : (al : ℕ) → IsTrue (flags s.top.func al) → has_point (ends_of (function_at m s.top.func) al) (place_in
      s.top) ≡ false
  no_end_of al flagged = no_marker f Intrinsic.LifetimeEnd al (place_in s.top) (λ x. not_this al flagged (marks_alone f
      (place_in s.top) marker Intrinsic.LifetimeEnd slot al result must_tail ty args is.here is.takes x))

  abbrev Behind : World → World → Type 0
  Behind w v = IsBeside m flags roots (settled s (record { world = w; values = s.top.values })) (settled t (record {
    world = v;
    values = t.top.values;
  }))

  -- over worlds in which all blocks of such slots are as they were
  pub marked_over : (w v : World) → IsCarried beside.ledger beside.ledger s.world.memory w.memory t.world.memory
      v.memory → ((b : ℕ) (seat : Seat) → beside.ledger.seats b ≡ Some seat → IsSlotKept beside.ledger beside.ledger
      s.world.memory w.memory b) → AreOver beside.ledger.homes beside.ledger.hides w v
      → AreEntered m beside.ledger w.memory v.memory → Behind w v
  marked_over w v carried kept over entered = subst (λ (vs : Env). IsBeside m flags roots (settled s (record {
    world = w;
    values = s.top.values;
  })) (settled t (record { world = v; values = vs }))) (ap (λ (z : Activation). z.values) (sym beside.top.is))
      (passed_beside m flags roots s t beside l w v carried kept s.top.values beside.top.values
      (edge_on m flags roots l s.instances s.world.memory t.world.memory (length s.below) s.top t.top beside.top (calm f
      (place_in s.top) is.place) i is.here)
      (λ al b flagged at. no_start_of al flagged)
      (λ al b flagged at live. no_end_of al flagged)
      (calm f (place_in s.top) is.place) beside.top.envs
      (others_on l l s.world.memory w.memory t.world.memory v.memory carried f (flags s.top.func) (roots s.top.func)
      s.top.values beside.top.values s.top.values beside.top.values beside.top.envs (λ v other. (refl, refl))
      beside.top.others)
      (λ al flagged. (refl, refl)) over entered)

  -- ---- what is marked

  module _ (h : MemoryBlock → MemoryBlock) (alike : IsAlike h) (stands : (b c : ℕ) → beside.ledger.seats b ≡ None
      → (mate : (x : MemoryBlock) × IsMate beside.ledger t.world.memory b x) → mate.1.block ≡ c
      → AreStanding beside.ledger.homes (muted beside.ledger.hides (with_block s.world.memory b h)) (with_block
      t.world.memory c h)) where
    abbrev marked : List MemoryBlock → Value → List MemoryBlock
    marked memory u = on_block (λ n b. with_block n b h) memory (block_of u)

    nothing : (u v : Value) → block_of u ≡ None → block_of v ≡ None → Behind (record s.world {
      memory = marked s.world.memory u;
    }) (record t.world { memory = marked t.world.memory v })
    nothing u v none none' = subst (λ (z : Option ℕ × Option ℕ). Behind (record s.world {
      memory = on_block (λ n b. with_block n b h) s.world.memory z.0;
    }) (record t.world { memory = on_block (λ n b. with_block n b h) t.world.memory z.1 })) (λ j. (
      sym none j,
      sym none' j,
    )) (marked_over s.world t.world (same_carried l s.world.memory t.world.memory) (λ b seat seated. same_kept l
        s.world.memory b) beside.world e)

    both : (b : ℕ) → (home_of beside.ledger.homes b).is_seen ≡ true → beside.ledger.seats b ≡ None → Behind (record
        s.world { memory = with_block s.world.memory b h }) (record t.world {
          memory = with_block t.world.memory (home_of beside.ledger.homes b).block h;
        })
    both b seen none =
        let there = present_block l s.world.memory e.known b seen in
        let mate = e.mates b there.0 none there.1 in
        let c : ℕ = mate.block in
        let block : c ≡ (home_of l.homes b).block = ap (λ (q : Home). q.block) (sym mate.home) in
        let over = stands b c none (there.0, mate) refl in
        subst (λ n. Behind (record s.world { memory = with_block s.world.memory b h }) (record t.world {
          memory = with_block t.world.memory n h;
        })) block (marked_over (record s.world { memory = with_block s.world.memory b h }) (record t.world {
          memory = with_block t.world.memory c h;
        }) (alike_carried m l s.world.memory t.world.memory b c h alike e none mate.home mate.owner mate.shown)
        (alike_kept m l s.world.memory t.world.memory b c h alike e none mate.home mate.owner mate.shown) (record {
          memory = over.memory;
          nulls = over.nulls;
          bounds = over.bounds;
          events = beside.world.events;
          answers = beside.world.answers;
          allocs = beside.world.allocs;
        }) (alike_entered m l s.world.memory t.world.memory b c h alike e none mate.home mate.owner mate.shown))

    by_value : (u v : Value) → IsValue beside.ledger.homes u v → ((b : ℕ) → block_of u ≡ Some b
        → beside.ledger.seats b ≡ None) → (block_of u ≡ None → block_of v ≡ None) → Behind (record s.world {
          memory = marked s.world.memory u;
        }) (record t.world { memory = marked t.world.memory v })
    by_value Value.Poison v k unseated nowhere = nothing Value.Poison v refl (nowhere refl)
    by_value (Value.Int n) v k unseated nowhere = nothing (Value.Int n) v refl (nowhere refl)
    by_value (Value.Ptr Pointer.Null) v k unseated nowhere = nothing (Value.Ptr Pointer.Null) v refl (nowhere refl)
    by_value (Value.Ptr (Pointer.Func g)) v k unseated nowhere = nothing (Value.Ptr (Pointer.Func g)) v refl (nowhere
        refl)
    by_value (Value.Ptr (Pointer.At b o)) v k unseated nowhere = subst (λ z. Behind (record s.world {
      memory = with_block s.world.memory b h;
    }) (record t.world { memory = marked t.world.memory z })) (sym k.1) (both b k.0 (unseated b refl))

    pub marked_beside : Behind (record s.world {
      memory = marked s.world.memory (nth (arg_values m s.top.values args) 1);
    }) (record t.world { memory = marked t.world.memory (nth (arg_values m t.top.values args) 1) })
    marked_beside =
        let first = marked_value m s.top.values args 1 slot is.takes in
        let second : nth (arg_values m t.top.values args) 1 ≡ value_in beside.top.values slot = marked_value m
        t.top.values args 1 slot is.takes ∙ ap (λ (z : Activation). value_in z.values slot) beside.top.is in
        let other = beside.top.others slot is.other in
        subst (λ (z : Value × Value). Behind (record s.world { memory = marked s.world.memory z.0 }) (record t.world {
          memory = marked t.world.memory z.1;
        })) (λ j. (sym first j, sym second j)) (by_value (value_in s.top.values slot) (value_in beside.top.values slot)
        (beside.top.envs.plain slot is.other.no_part) other.unseated other.nowhere)

-- ---- the states

module _ (m : Module) (flags : Flags) (roots : Roots) (answers : List ℤ) (s t : State) (beside : IsBeside m flags roots
    s t) (slot : ℕ) (result : Option ℕ) (must_tail : Bool) (ty : Option Ty) (args : List Arg) where
  abbrev act : Intrinsic → State → Action
  act marker z = action_of (record {
    code = m;
    answers = answers;
    rights = owner_rights;
    function = function_at m s.top.func;
  }) (work_of z) (AtInstr (Instr.Call result must_tail ty (Callee.Intrinsic marker) args))

  abbrev ledger : Ledger
  ledger = beside.ledger

  standing : AreStanding beside.ledger.homes (muted beside.ledger.hides s.world.memory) t.world.memory
  standing = record { memory = beside.world.memory; nulls = beside.world.nulls; bounds = beside.world.bounds }

  same_done : {a b : Work} → Done a ≡ Done b → a ≡ b
  same_done q = cc

  pub other_ends : IsMarkingOther m flags roots s.top Intrinsic.LifetimeEnd slot result must_tail ty args → (v : Work)
      → act Intrinsic.LifetimeEnd s ≡ Done v
      → (y : Work) × (act Intrinsic.LifetimeEnd t ≡ Done y) × IsBeside m flags roots (settled s v) (settled t y)
  other_ends is v done = (
    set_memory (work_of t) (on_block end t.world.memory (block_of (nth (arg_values m t.top.values args) 1))),
    refl,
    subst (λ z. IsBeside m flags roots (settled s z) (settled t (set_memory (work_of t) (on_block end t.world.memory
        (block_of (nth (arg_values m t.top.values args) 1)))))) (same_done done) (marked_beside m flags roots s t beside
        Intrinsic.LifetimeEnd slot result must_tail ty args is ended ended_alike (λ b c none mate block. subst (λ n.
        AreStanding ledger.homes (muted ledger.hides (end s.world.memory b)) (end t.world.memory n)) block (dies_alike
        m ledger s.world.memory t.world.memory b mate.1.block beside.entered none mate.1.home mate.1.owner mate.1.shown
        standing ended ended_alike ended_dead ends.size))),
  )

  pub other_starts : IsMarkingOther m flags roots s.top Intrinsic.LifetimeStart slot result must_tail ty args
      → (v : Work) → act Intrinsic.LifetimeStart s ≡ Done v
      → (y : Work) × (act Intrinsic.LifetimeStart t ≡ Done y) × IsBeside m flags roots (settled s v) (settled t y)
  other_starts is v done = (
    set_memory (work_of t) (on_block start t.world.memory (block_of (nth (arg_values m t.top.values args) 1))),
    refl,
    subst (λ z. IsBeside m flags roots (settled s z) (settled t (set_memory (work_of t) (on_block start t.world.memory
        (block_of (nth (arg_values m t.top.values args) 1)))))) (same_done done) (marked_beside m flags roots s t beside
        Intrinsic.LifetimeStart slot result must_tail ty args is started started_alike (λ b c none mate block. subst (λ
        n. AreStanding ledger.homes (muted ledger.hides (start s.world.memory b)) (start t.world.memory n)) block
        (starts_alike m ledger s.world.memory t.world.memory b mate.1.block beside.entered none mate.1.home
        mate.1.owner mate.1.shown standing))),
  )
