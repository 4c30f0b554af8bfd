-- A call of the elided module that gives a frame is one with a room.
use Rattle.std.proofs.Common.{◌≡◌, ◌+◌, ℕ, zero, suc, Bool, List, [], ◌∷◌, ◌++◌, length, refl, sym, ap, ◌∙◌, subst, arith}
use Rattle.std.specs.Prelude.{None, Option, Some, slice_get}
use Rattle.pass_elide.specs.Elided.{block_frames, elided_block, elided_blocks, elided_by, elided_function, elided_instrs, frame_allocas, frames_by, function_frames, given_call, with_front}
use Rattle.pass_elide.specs.declared.given.GivenFrame.{GivenFrame}
use Rattle.pass_elide_proof.proofs.ElidedFound.{fetched}
use Rattle.pass_elide_proof.proofs.GoesOn.{instr_there}
use Rattle.pass_elide_proof.proofs.Modules.{finds_alike}
use Rattle.pass_elide_proof.specs.Elision.{Elision, elided_code, function_in, rooms}
use Rattle.pass_elide_proof.specs.Places.{Rooms, instrs_in, instrs_of, phi_count, room_at}
use Rattle.pass_elide_proof.specs.Releasing.{HoldsOfCallees, HoldsOfRooms}
use Rattle.pass_proofs.specs.ir_base.declared.name.Name.{Name}
use Rattle.pass_proofs.specs.ir_model.Names.{function_at, noalloc_of}
use Rattle.pass_proofs.specs.ir_model.Ty.{Ty}
use Rattle.pass_proofs.specs.ir_model.declared.instr.Instr.{Instr}
use Rattle.pass_proofs.specs.ir_model.declared.module.Block.{Block}
use Rattle.pass_proofs.specs.ir_model.declared.module.Function.{Function}
use Rattle.pass_proofs.specs.ir_model.declared.module.Module.{Module}
use Rattle.pass_proofs.specs.ir_model.declared.operand.Allocator.{Allocator}
use Rattle.pass_proofs.specs.ir_model.declared.operand.Arg.{Arg}
use Rattle.pass_proofs.specs.ir_model.declared.operand.Callee.{Callee}
use Rattle.pass_proofs.specs.ir_model.declared.operand.Intrinsic.{Intrinsic}
use Rattle.pass_proofs.specs.run_framed.Framed.{given_ramp}
use Rattle.pass_proofs.specs.run_laws.changed.Changed.{Each}
use Rattle.pass_proofs.specs.run_step.Step.{AtInstr, fetch, phis_of}
use Rattle.run_slots.specs.Slots.{GivesNoFrames}

-- the coroutine that an instruction calls and gives a frame is one of which a fact holds
abbrev CallsFine : (ℕ → Type 0) → Module → Instr → Type 0
CallsFine Is m (Instr.Call result must_tail ty (Callee.Named n) args) =
    (callee : ℕ) → given_ramp m n ≡ Some callee → Is callee
CallsFine Is m _ = Unit {0}

module _ (Is : ℕ → Type 0) (m : Module) where
  abbrev Fine : Instr → Type 0
  Fine i = CallsFine Is m i

  abbrev AllFine : List Instr → Type 0
  AllFine is = Each Fine is

  both_fine : (xs ys : List Instr) → AllFine xs → AllFine ys → AllFine (xs ++ ys)
  both_fine [] ys h k = k
  both_fine (x ∷ xs) ys h k = (h.0, both_fine xs ys h.1 k)

  allocas_fine : (n : ℕ) (rs : List GivenFrame) → AllFine (frame_allocas n rs)
  allocas_fine n [] = tt
  allocas_fine n (GivenFrame.Alloca size align ∷ rs) = (tt, allocas_fine (n + 1) rs)
  allocas_fine n (GivenFrame.Field base distance ∷ rs) = allocas_fine (n + 1) rs

  by_fine : (n : ℕ) (o : Option GivenFrame) (i : Instr) → Fine i
      → ((r : GivenFrame) → o ≡ Some r → Fine (given_call n i)) → AllFine (elided_by n o i)
  by_fine n None i own given = (own, tt)
  by_fine n (Some (GivenFrame.Alloca size align)) i own given = (given (GivenFrame.Alloca size align) refl, tt)
  by_fine n (Some (GivenFrame.Field base distance)) i own given =
      (tt, (given (GivenFrame.Field base distance) refl, tt))

  instrs_fine : (room : ℕ → Instr → Option GivenFrame) (at n : ℕ) (is : List Instr)
      → ((k : ℕ) (i : Instr) → slice_get is k ≡ Some i → Fine i)
      → ((k j : ℕ) (i : Instr) (r : GivenFrame) → slice_get is k ≡ Some i → room (at + k) i ≡ Some r
      → Fine (given_call j i)) → AllFine (elided_instrs room at n is)
  instrs_fine room at n [] own given = tt
  instrs_fine room at n (i ∷ is) own given =
      let first : at ≡ at + 0 = omega arith in
      both_fine (elided_by n (room at i) i) (elided_instrs room (at + 1) (length (frames_by (room at i)) + n) is)
      (by_fine n (room at i) i (own 0 i refl)
      (λ r is_room. given 0 n i r refl (ap (λ (k : ℕ). room k i) (sym first) ∙ is_room)))
      (instrs_fine room (at + 1) (length (frames_by (room at i)) + n) is (λ k j there. own (suc k) j there)
      (λ k j q r there is_room. given (suc k) j q r there (ap (λ (l : ℕ). room l q) (further at k) ∙ is_room)))
    where
      further : (at k : ℕ) → at + suc k ≡ at + 1 + k
      further at k = omega arith

  got : (is : List Instr) → AllFine is → (k : ℕ) (i : Instr) → slice_get is k ≡ Some i → Fine i
  got [] h k i at = absurd (cc)
  got (x ∷ is) h zero i at = let same : x ≡ i = cc in subst Fine same h.0
  got (x ∷ is) h (suc k) i at = got is h.1 k i at

  -- ---- blocks

  module _ (room : Rooms) where
    -- what is asked of the instructions of a block at a position
    abbrev BlockFine : ℕ → Block → Type 0
    BlockFine block b =
        ((k : ℕ) (i : Instr) → slice_get b.instrs k ≡ Some i → Fine i)
        × ((k j : ℕ) (i : Instr) (r : GivenFrame) → slice_get b.instrs k ≡ Some i
        → room block (length b.phis + k) i ≡ Some r → Fine (given_call j i))

    blocks_fine : (s n : ℕ) (bs : List Block)
        → ((k : ℕ) (b : Block) → slice_get bs k ≡ Some b → BlockFine (s + k) b) → (k : ℕ) (c : Block)
        → slice_get (elided_blocks room s n bs) k ≡ Some c → AllFine c.instrs
    blocks_fine s n [] all k c at = absurd (cc)
    blocks_fine s n (b ∷ bs) all zero c at =
        let same : elided_block room s n b ≡ c = cc in
        let first : s + 0 ≡ s = omega arith in
        let own = subst (λ (l : ℕ). BlockFine l b) first (all 0 b refl) in
        subst (λ (z : Block). AllFine z.instrs) same (instrs_fine (room s) (length b.phis) n b.instrs own.0 own.1)
    blocks_fine s n (b ∷ bs) all (suc k) c at =
        blocks_fine (s + 1) (length (block_frames room s b) + n) bs
        (λ j z there. subst (λ (l : ℕ). BlockFine l z) (further s j) (all (suc j) z there)) k c at
      where
        further : (s k : ℕ) → s + suc k ≡ s + 1 + k
        further s k = omega arith

    front_fine : (front : List Instr) (cs : List Block) → AllFine front
        → ((k : ℕ) (c : Block) → slice_get cs k ≡ Some c → AllFine c.instrs) → (block : ℕ)
        → AllFine (instrs_in (slice_get (with_front front cs) block))
    front_fine front [] h all block = tt
    front_fine front (c ∷ cs) h all zero = both_fine front c.instrs h (all 0 c refl)
    front_fine front (c ∷ cs) h all (suc k) = by (slice_get cs k) refl
      where
        by : (o : Option Block) → slice_get cs k ≡ o → AllFine (instrs_in o)
        by None eo = tt
        by (Some d) eo = all (suc k) d eo

    function_fine : (f : Function) → ((k : ℕ) (b : Block) → slice_get f.blocks k ≡ Some b → BlockFine k b)
        → (block : ℕ) → AllFine (instrs_of (elided_function room f) block)
    function_fine f all block =
        front_fine (frame_allocas (length f.names) (function_frames room f))
        (elided_blocks room 0 (length f.names) f.blocks)
        (allocas_fine (length f.names) (function_frames room f))
        (blocks_fine 0 (length f.names) f.blocks
        (λ k b there. subst (λ (l : ℕ). BlockFine l b) (from_zero k) (all k b there))) block
      where
        from_zero : (k : ℕ) → k ≡ 0 + k
        from_zero k = omega arith

-- ---- the elided module

module _ (Is : ℕ → Type 0) (e : Elision) (none : GivesNoFrames e.code) (rooms_are : HoldsOfRooms Is e) where
  own_fine : (func block at : ℕ) (i : Instr) → slice_get (instrs_of (function_in e func) block) at ≡ Some i
      → CallsFine Is e.code i
  own_fine func block at (Instr.Call result must_tail ty (Callee.Named n) args) there =
      λ callee given. absurd (no_some (given_ramp e.code n)
      (none func block at result must_tail ty n args
      (fetched (function_in e func) block at (Instr.Call result must_tail ty (Callee.Named n) args) there)) callee given)
    where
      no_some : (o : Option ℕ) → o ≡ None → (k : ℕ) → o ≡ Some k → ⊥
      no_some None a k b = cc
      no_some (Some j) a k b = cc
  own_fine func block at (Instr.Call result must_tail ty (Callee.Allocator a) args) there = tt
  own_fine func block at (Instr.Call result must_tail ty (Callee.Intrinsic j) args) there = tt
  own_fine func block at (Instr.Call result must_tail ty (Callee.Local v) args) there = tt
  own_fine func block at (Instr.Binary name op flags ty a b) there = tt
  own_fine func block at (Instr.Icmp name pred ty a b) there = tt
  own_fine func block at (Instr.Select name x a b) there = tt
  own_fine func block at (Instr.Cast name op nneg arg to) there = tt
  own_fine func block at (Instr.Alloca name ty align) there = tt
  own_fine func block at (Instr.Load name ty q align) there = tt
  own_fine func block at (Instr.Store arg q align) there = tt
  own_fine func block at (Instr.Gep name inbounds ty base indices) there = tt

  room_fine : (func block at j : ℕ) (i : Instr) (r : GivenFrame)
      → slice_get (instrs_of (function_in e func) block) at ≡ Some i
      → room_at (rooms e func) (function_in e func) block at i ≡ Some r → CallsFine Is e.code (given_call j i)
  room_fine func block at j (Instr.Call result must_tail ty (Callee.Named n) args) r there is_room =
      λ callee given. rooms_are func block at callee result must_tail ty n args r there is_room given
  room_fine func block at j (Instr.Call result must_tail ty (Callee.Allocator a) args) r there is_room = tt
  room_fine func block at j (Instr.Call result must_tail ty (Callee.Intrinsic k) args) r there is_room = tt
  room_fine func block at j (Instr.Call result must_tail ty (Callee.Local v) args) r there is_room = tt
  room_fine func block at j (Instr.Binary name op flags ty a b) r there is_room = tt
  room_fine func block at j (Instr.Icmp name pred ty a b) r there is_room = tt
  room_fine func block at j (Instr.Select name x a b) r there is_room = tt
  room_fine func block at j (Instr.Cast name op nneg arg to) r there is_room = tt
  room_fine func block at j (Instr.Alloca name ty align) r there is_room = tt
  room_fine func block at j (Instr.Load name ty q align) r there is_room = tt
  room_fine func block at j (Instr.Store arg q align) r there is_room = tt
  room_fine func block at j (Instr.Gep name inbounds ty base indices) r there is_room = tt

  block_fine : (func k : ℕ) (b : Block) → slice_get (function_in e func).blocks k ≡ Some b
      → BlockFine Is e.code (rooms e func) k b
  block_fine func k b whole = (
    λ at i there. own_fine func k at i (ap (λ (o : Option Block). slice_get (instrs_in o) at) whole ∙ there),
    λ at j i r there is_room.
        room_fine func k at j i r (ap (λ (o : Option Block). slice_get (instrs_in o) at) whole ∙ there)
        (ap (λ (o : Option Block). rooms e func k (length (phis_of o) + at) i) whole ∙ is_room),
  )

  pub callees_hold : HoldsOfCallees Is (elided_code e)
  callees_hold func block at callee result must_tail ty n args is given =
      got Is e.code (instrs_of (elided_function (rooms e func) (function_in e func)) block)
      (function_fine Is e.code (rooms e func) (function_in e func) (block_fine func) block) at
      (Instr.Call result must_tail ty (Callee.Named n) args)
      (instr_there (elided_function (rooms e func) (function_in e func)) block at
      (Instr.Call result must_tail ty (Callee.Named n) args)
      (ap (λ (f : Function). fetch f block at) (sym ((finds_alike e).functions func)) ∙ is)) callee
      (sym ((finds_alike e).ramps n) ∙ given)
