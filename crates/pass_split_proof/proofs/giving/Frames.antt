-- The address of a frame, with its release or without, and the name of a coroutine.
use Rattle.std.proofs.Common.{◌≡◌, ℕ, zero, suc, ◌+◌, ◌<◌, ◌≤◌, ◌^◌, false, List, ◌∷◌, [], length, Option, Some, None, refl, ap, ◌∙◌, arith}
use Rattle.std.specs.Prelude.{option_and_then, option_map, pos, slice_get}
use Rattle.pass_proofs.specs.ir_base.declared.outcome.Outcome.{Outcome}
use Rattle.pass_proofs.specs.ir_model.Names.{function_at}
use Rattle.pass_proofs.specs.ir_model.Ty.{int, ptr}
use Rattle.pass_proofs.specs.ir_model.declared.instr.Instr.{Instr}
use Rattle.pass_proofs.specs.ir_model.declared.module.Function.{Function}
use Rattle.pass_proofs.specs.ir_model.declared.operand.Intrinsic.{Intrinsic}
use Rattle.pass_proofs.specs.ir_model.declared.operand.Operand.{Operand}
use Rattle.pass_proofs.specs.pass_intrinsics.Lowered.{address, number_arg}
use Rattle.pass_proofs.proofs.addresses.numbers.Done.{address_done}
use Rattle.pass_split_proof.proofs.giving.Constants.{not_again}
use Rattle.pass_split_proof.proofs.giving.Given.{call_here, none_given, one_given}
use Rattle.pass_split_proof.proofs.states.Advanced.{advanced, same_frames}
use Rattle.pass_split_proof.proofs.states.Judged.{numbering}
use Rattle.pass_split_proof.proofs.states.Twins.{twin_at}
use Rattle.pass_split_proof.proofs.steps.Followed.{framed_does, one_followed}
use Rattle.pass_split_proof.proofs.steps.Given.{address_itself}
use Rattle.pass_split_proof.proofs.steps.Ordinary.{IsAlone, IsCopied, alone}
use Rattle.pass_split_proof.proofs.steps.Settled.{plain_does}
use Rattle.pass_split_proof.specs.giving.Intrinsics.{IsAtIntrinsic}
use Rattle.pass_split_proof.specs.simulation.Followed.{IsFollowed}
use Rattle.pass_split_proof.specs.states.Activations.{HasFrame, Inside}
use Rattle.pass_split_proof.specs.states.Memories.{homes_of}
use Rattle.pass_split_proof.specs.states.Related.{AreRelated, credit_of}
use Rattle.pass_proofs.specs.run_framed.Framed.{FramedGiven, framed_step}
use Rattle.pass_proofs.specs.run_laws.access.Lines.{pointer_at}
use Rattle.pass_proofs.specs.run_laws.memory.Pointers.{IsValue}
use Rattle.pass_proofs.specs.run_memory.declared.block.MemoryBlock.{MemoryBlock}
use Rattle.pass_proofs.specs.run_memory.declared.pointer.Value.{Value}
use Rattle.run_access_worked.specs.run_plain.Plain.{PlainGiven, plain_context, plain_settled, plain_work}
use Rattle.run_access_worked.specs.run_plain.declared.state.PlainState.{PlainState}
use Rattle.pass_proofs.specs.run_source.Source.{frame_address}
use Rattle.pass_proofs.specs.run_source.State.{frame_address_of, function_of, gives, next, numbered, work_of}
use Rattle.pass_proofs.specs.run_source.declared.state.Instance.{Instance}
use Rattle.pass_proofs.specs.run_source.declared.state.State.{State}
use Rattle.pass_proofs.specs.run_step.Step.{AtInstr, Coro, Done, instr_action, set_value, value_at}
use Rattle.pass_proofs.specs.run_step.Values.{distance, element, indices_of, value_in}

-- a block that a memory has
pub block_there : (m : List MemoryBlock) (b : ℕ) → b < length m → (y : MemoryBlock) × (slice_get m b ≡ Some y)
block_there [] b lt = absurd (none b lt)
  where
    none : (b : ℕ) → b < 0 → ⊥
    none b lt = omega arith
block_there (x ∷ m) zero lt = (x, refl)
block_there (x ∷ m) (suc b) lt = block_there m b (less b (length m) lt)
  where
    less : (b n : ℕ) → suc b < suc n → b < n
    less b n lt = omega arith

module _ (g : FramedGiven) (h : PlainGiven) (s : State) (t : PlainState) (r : AreRelated g h s t)
    (runs : s.outcome ≡ Outcome.Running) where
  abbrev f : Function
  f = function_of g.given s

  abbrev q : Function
  q = function_at h.code t.top.func

  reach : (n : ℕ) → n ≤ n
  reach n = omega arith

  -- ---- the name of a coroutine stays

  module _ (k : IsAtIntrinsic g h s t r Intrinsic.CoroId) where
    abbrev id_here : Instr
    id_here = call_here g h s t r runs Intrinsic.CoroId k k.result

    copied : IsCopied r.top.shape r.top.part f q s.top.block s.top.at t.top.block t.top.at id_here
    copied = alone r.top.shape r.top.part f q s.top.block s.top.at t.top.block t.top.at id_here id_here
        (record { begins = not_again r.top.part id_here refl; cut = λ after. refl; lowered = λ n. refl }) k.place
        k.there

    pub id_followed : IsFollowed g h s t
    id_followed = one_followed g h s t r runs (next s) (plain_settled t (plain_work t))
        (framed_does g s (AtInstr id_here) (Coro Intrinsic.CoroId k.args k.result) runs k.there refl refl)
        (plain_does h t (AtInstr id_here) (Coro Intrinsic.CoroId k.args k.result) (r.outcome ∙ runs) copied.0 refl)
        (reach (credit_of s))
        (advanced g h s t r (work_of s) (plain_work t) s.instances s.top.block (s.top.at + 1) t.top.block
        (t.top.at + 1) s.top.has_left k.settled r.world r.frames (same_frames s.instances)
        (reach (length s.world.memory)) (record { each = λ b e. refl }) r.top.values refl refl refl
        (Inside s.top.mode k.settled copied.1)) (λ know. know)

  -- ---- the frame's address

  -- a frame's address in the part
  module _ (i : ℕ) (own : s.top.instance ≡ Some i) where
    pub has : HasFrame s.instances s.top.func (value_in t.top.values r.top.shape.begin) i
    has = r.top.frame i own

    abbrev pub x : Instance
    x = has.instance

    pub found : option_and_then (numbered s.instances) s.top.instance ≡ Some (numbering i x)
    found = ap (option_and_then (numbered s.instances)) own ∙ ap (option_map (numbering i)) has.there

    known : x.block < length s.world.memory
    known = r.frames.laid.known i x has.there

    start_low : x.start < 2 ^ 64
    start_low =
        let y = block_there s.world.memory x.block known in
        below x.start _ y.0.size (r.frames.laid.lies i x y.0 has.there y.1).inside
        (twin_at s.world.memory t.world.memory r.world.memory.twins x.block y.0 y.1).is.small
      where
        below : (a b n : ℕ) → a + b ≤ n → n < 2 ^ 64 → a < 2 ^ 64
        below a b n le lt = omega arith

    pub stands : IsValue (homes_of s.world.memory) (frame_address_of x) (pointer_at x.block x.start)
    stands = address_itself (length s.world.memory) x.block x.start known start_low

    pub gives_address : (name : ℕ)
        → instr_action (plain_context h t) (plain_work t) (address name (Operand.Local r.top.shape.begin) (pos 0))
        ≡ Done (set_value (plain_work t) name (pointer_at x.block x.start))
    gives_address name = address_done (plain_context h t) (plain_work t) name x.block x.start 0
        (Operand.Local r.top.shape.begin) has.is (low x.start start_low)
        ∙ ap (λ (o : ℕ). Done (set_value (plain_work t) name (pointer_at x.block o))) (same x.start)
      where
        same : (n : ℕ) → n + 0 ≡ n
        same n = omega arith

        low : (n : ℕ) → n < 2 ^ 64 → n + 0 < 2 ^ 64
        low n lt = omega arith

  module _ (k : IsAtIntrinsic g h s t r Intrinsic.CoroFrame) where
    abbrev at : Option ℕ → Instr
    at result = call_here g h s t r runs Intrinsic.CoroFrame k result

    abbrev here : ℕ → Instr
    here name = address name (Operand.Local r.top.shape.begin) (pos 0)

    is : framed_step g s ≡ gives s k.result (frame_address (option_and_then (numbered s.instances) s.top.instance))
    is = framed_does g s (AtInstr (at k.result)) (Coro Intrinsic.CoroFrame k.args k.result) runs k.there refl refl

    alone_there : (name : ℕ) → IsAlone r.top.shape r.top.part (at (Some name)) (here name)
    alone_there name = record {
      begins = not_again r.top.part (at (Some name)) refl;
      cut = λ after. refl;
      lowered = λ n. refl;
    }

    by_own : (name : ℕ) → k.result ≡ Some name → (o : Option ℕ) → s.top.instance ≡ o → IsFollowed g h s t
    by_own name e None own = one_given g h s t r runs Intrinsic.CoroFrame k name (here name) Value.Poison
        (element t.world.memory false (value_at (plain_context h t) (plain_work t) ptr (Operand.Local
        r.top.shape.begin)) (distance h.code (int 8) (indices_of h.code t.top.values (number_arg 64 (pos 0) ∷ []))))
        e (alone_there name) tt refl
        (is ∙ ap (λ (o : Option ℕ). gives s k.result (frame_address (option_and_then (numbered s.instances) o))) own
        ∙ ap (λ (o : Option ℕ). gives s o Value.Poison) e)
    by_own name e (Some i) own = one_given g h s t r runs Intrinsic.CoroFrame k name (here name)
        (frame_address_of (x i own)) (pointer_at (x i own).block (x i own).start) e (alone_there name) (stands i own)
        (gives_address i own name)
        (is ∙ ap (λ (o : Option (ℕ × Instance)). gives s k.result (frame_address o)) (found i own)
        ∙ ap (λ (o : Option ℕ). gives s o (frame_address_of (x i own))) e)

    by_result : (o : Option ℕ) → k.result ≡ o → IsFollowed g h s t
    by_result None e = none_given g h s t r runs Intrinsic.CoroFrame k e
        (record { begins = not_again r.top.part (at None) refl; cut = λ after. refl; lowered = λ n. refl })
        (is ∙ ap (λ (o : Option ℕ). gives s o (frame_address (option_and_then (numbered s.instances)
        s.top.instance))) e)
    by_result (Some name) e = by_own name e s.top.instance refl

    pub frame_followed : IsFollowed g h s t
    frame_followed = by_result k.result refl
