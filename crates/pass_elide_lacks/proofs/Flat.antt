-- What stands at each place of a function whose calls give allocas alone: a new alloca in front, or what stood there.
use Rattle.std.proofs.Common.{◌≡◌, ◌⊎◌, inl, inr, ◌∙◌, ◌+◌, ◌-◌, ◌<◌, ◌≤◌, ℕ, zero, suc, Bool, List, [], ◌∷◌, length, None, Option, Some, ap, refl, sym, arith}
use Rattle.std.specs.Prelude.{slice_get}
use Rattle.pass_elide.specs.Elided.{block_frames, elided_blocks, elided_function, with_front}
use Rattle.pass_elide.specs.declared.given.GivenFrame.{GivenFrame}
use Rattle.pass_elide_meaning.proofs.pass_elide_edges.pass_elide_proof.EdgeEntered.{end_at}
use Rattle.pass_elide_meaning.proofs.pass_elide_edges.pass_elide_proof.ElidedFound.{fetched}
use Rattle.pass_elide_meaning.proofs.pass_elide_edges.pass_elide_proof.GivingMarkers.{nothing_put}
use Rattle.pass_elide_meaning.proofs.pass_elide_edges.pass_elide_proof.GoesOn.{instr_there}
use Rattle.pass_elide_meaning.proofs.pass_elide_edges.pass_elide_proof.Standing.{has_code}
use Rattle.pass_elide_meaning.proofs.pass_elide_edges.pass_elide_proof.pass_proofs.ir_laws.facts.Lists.{get_within, none_past}
use Rattle.pass_elide_meaning.specs.pass_elide_edges.pass_elide_proof.Places.{Rooms, ahead, allocas_ahead, elided_instr, instrs_in, instrs_of, name_at, own_at, phi_count, put_by, room_at}
use Rattle.pass_elide_meaning.specs.pass_elide_edges.pass_elide_proof.pass_proofs.ir_model.Ty.{Ty}
use Rattle.pass_elide_meaning.specs.pass_elide_edges.pass_elide_proof.pass_proofs.ir_model.declared.instr.Instr.{Instr}
use Rattle.pass_elide_meaning.specs.pass_elide_edges.pass_elide_proof.pass_proofs.ir_model.declared.module.Block.{Block}
use Rattle.pass_elide_meaning.specs.pass_elide_edges.pass_elide_proof.pass_proofs.ir_model.declared.module.Function.{Function}
use Rattle.pass_elide_meaning.specs.pass_elide_edges.pass_elide_proof.pass_proofs.ir_model.declared.operand.Arg.{Arg}
use Rattle.pass_elide_meaning.specs.pass_elide_edges.pass_elide_proof.pass_proofs.ir_model.declared.operand.Callee.{Callee}
use Rattle.pass_elide_meaning.specs.pass_elide_edges.pass_elide_proof.pass_proofs.ir_model.declared.operand.Intrinsic.{Intrinsic}
use Rattle.pass_elide_meaning.specs.pass_elide_edges.pass_elide_proof.pass_proofs.ir_parts.Contents.{result_of}
use Rattle.pass_elide_meaning.specs.pass_elide_edges.pass_elide_proof.pass_proofs.run_laws.access.Lines.{StandAt}
use Rattle.pass_elide_meaning.specs.pass_elide_edges.pass_elide_proof.pass_proofs.run_step.Step.{AtInstr, fetch}

-- ---- numbers and lists

pub less_or : (a b : ℕ) → (a < b) ⊎ (b ≤ a)
less_or zero zero = inr (omega arith)
less_or zero (suc b) = inl (omega arith)
less_or (suc a) zero = inr (omega arith)
less_or (suc a) (suc b) = on (less_or a b)
  where
    on : (a < b) ⊎ (b ≤ a) → (suc a < suc b) ⊎ (suc b ≤ suc a)
    on (inl lt) = inl (omega (arith, lt))
    on (inr le) = inr (omega (arith, le))

-- an element stands at each position of a list
element : {A : Type 0} (xs : List A) (k : ℕ) → k < length xs → (x : A) × (slice_get xs k ≡ Some x)
element {A} xs k lt = on (slice_get xs k) refl
  where
    on : (o : Option A) → slice_get xs k ≡ o → (x : A) × (slice_get xs k ≡ Some x)
    on None none = absurd (let le = none_past xs k none in omega (arith, lt, le))
    on (Some x) there = (x, there)

same_some : (i j : Instr) → Some i ≡ Some j → i ≡ j
same_some i j h = cc

same_instr : (i j : Instr) → AtInstr i ≡ AtInstr j → i ≡ j
same_instr i j h = cc

-- what stands in a row stands there one by one
row_at : (f : Function) (block at : ℕ) (is : List Instr) (k : ℕ) (i : Instr) → StandAt f block at is
    → slice_get is k ≡ Some i → fetch f block (at + k) ≡ AtInstr i
row_at f block at [] k i h there = absurd (cc)
row_at f block at (x ∷ is) zero i h there =
    let same : x ≡ i = cc in
    let here : at + 0 ≡ at = omega arith in
    (λ j. fetch f block (here j)) ∙ (h.0 ∙ ap AtInstr same)
row_at f block at (x ∷ is) (suc k) i h there =
    let far : at + suc k ≡ at + 1 + k = omega arith in
    (λ j. fetch f block (far j)) ∙ row_at f block (at + 1) is k i h.1 there

-- ---- blocks

blocks_none : (room : Rooms) (s n : ℕ) (bs : List Block) (k : ℕ) → slice_get bs k ≡ None
    → slice_get (elided_blocks room s n bs) k ≡ None
blocks_none room s n [] k none = refl
blocks_none room s n (b ∷ bs) zero none = absurd (cc)
blocks_none room s n (b ∷ bs) (suc k) none =
    blocks_none room (s + 1) (length (block_frames room s b) + n) bs k none

front_none : (front : List Instr) (bs : List Block) (k : ℕ) → slice_get bs k ≡ None
    → slice_get (with_front front bs) k ≡ None
front_none front [] k none = refl
front_none front (b ∷ bs) zero none = absurd (cc)
front_none front (b ∷ bs) (suc k) none = none

-- ---- what a call that gives a frame has as it was

pub given_result : (n : ℕ) (o : Option GivenFrame) (i : Instr) → result_of (elided_instr n o i) ≡ result_of i
given_result n None i = refl
given_result n (Some r) (Instr.Call result must_tail ty (Callee.Named g) args) = refl
given_result n (Some r) (Instr.Call result must_tail ty (Callee.Allocator a) args) = refl
given_result n (Some r) (Instr.Call result must_tail ty (Callee.Intrinsic j) args) = refl
given_result n (Some r) (Instr.Call result must_tail ty (Callee.Local v) args) = refl
given_result n (Some r) (Instr.Binary name op flags ty a b) = refl
given_result n (Some r) (Instr.Icmp name pred ty a b) = refl
given_result n (Some r) (Instr.Select name x a b) = refl
given_result n (Some r) (Instr.Cast name op nneg arg to) = refl
given_result n (Some r) (Instr.Alloca name ty align) = refl
given_result n (Some r) (Instr.Load name ty p align) = refl
given_result n (Some r) (Instr.Store arg p align) = refl
given_result n (Some r) (Instr.Gep name inbounds ty base indices) = refl

-- an alloca is none
pub given_alloca : (n : ℕ) (o : Option GivenFrame) (i : Instr) (name align : ℕ) (ty : Ty)
    → elided_instr n o i ≡ Instr.Alloca name ty align → i ≡ Instr.Alloca name ty align
given_alloca n None i name align ty h = h
given_alloca n (Some r) (Instr.Call result must_tail t (Callee.Named g) args) name align ty h = absurd (cc)
given_alloca n (Some r) (Instr.Call result must_tail t (Callee.Allocator a) args) name align ty h = h
given_alloca n (Some r) (Instr.Call result must_tail t (Callee.Intrinsic j) args) name align ty h = h
given_alloca n (Some r) (Instr.Call result must_tail t (Callee.Local v) args) name align ty h = h
given_alloca n (Some r) (Instr.Binary name' op flags t a b) name align ty h = h
given_alloca n (Some r) (Instr.Icmp name' pred t a b) name align ty h = h
given_alloca n (Some r) (Instr.Select name' x a b) name align ty h = h
given_alloca n (Some r) (Instr.Cast name' op nneg arg to) name align ty h = h
given_alloca n (Some r) (Instr.Alloca name' t al) name align ty h = h
given_alloca n (Some r) (Instr.Load name' t p al) name align ty h = h
given_alloca n (Some r) (Instr.Store arg p al) name align ty h = h
given_alloca n (Some r) (Instr.Gep name' inbounds t base indices) name align ty h = h

-- nor is a call of an intrinsic
pub given_intrinsic : (n : ℕ) (o : Option GivenFrame) (i : Instr) (result : Option ℕ) (must_tail : Bool)
    (ty : Option Ty) (j : Intrinsic) (args : List Arg)
    → elided_instr n o i ≡ Instr.Call result must_tail ty (Callee.Intrinsic j) args
    → i ≡ Instr.Call result must_tail ty (Callee.Intrinsic j) args
given_intrinsic n None i result must_tail ty j args h = h
given_intrinsic n (Some r) (Instr.Call result' mt t (Callee.Named g) args') result must_tail ty j args h = absurd (cc)
given_intrinsic n (Some r) (Instr.Call result' mt t (Callee.Allocator a) args') result must_tail ty j args h = h
given_intrinsic n (Some r) (Instr.Call result' mt t (Callee.Intrinsic k) args') result must_tail ty j args h = h
given_intrinsic n (Some r) (Instr.Call result' mt t (Callee.Local v) args') result must_tail ty j args h = h
given_intrinsic n (Some r) (Instr.Binary name op flags t a b) result must_tail ty j args h = h
given_intrinsic n (Some r) (Instr.Icmp name pred t a b) result must_tail ty j args h = h
given_intrinsic n (Some r) (Instr.Select name x a b) result must_tail ty j args h = h
given_intrinsic n (Some r) (Instr.Cast name op nneg arg to) result must_tail ty j args h = h
given_intrinsic n (Some r) (Instr.Alloca name t al) result must_tail ty j args h = h
given_intrinsic n (Some r) (Instr.Load name t p al) result must_tail ty j args h = h
given_intrinsic n (Some r) (Instr.Store arg p al) result must_tail ty j args h = h
given_intrinsic n (Some r) (Instr.Gep name inbounds t base indices) result must_tail ty j args h = h

module _ (room : Rooms) (f : Function) where
  abbrev pub h : Function
  h = elided_function room f

  pub data IsPlaced (block at : ℕ) (j : Instr) : Type 0 where
    Ahead : block ≡ 0 → slice_get (allocas_ahead room f) at ≡ Some j → IsPlaced block at j
    Own : (p : ℕ) (i : Instr) → slice_get (instrs_of f block) p ≡ Some i → at ≡ ahead room f block + p
        → j ≡ elided_instr (name_at room f block p) (room_at room f block p i) i → IsPlaced block at j

  -- what is put in front stands there
  pub ahead_there : (b : Block) → slice_get f.blocks 0 ≡ Some b → (k : ℕ) (i : Instr)
      → slice_get (allocas_ahead room f) k ≡ Some i → slice_get (instrs_of h 0) k ≡ Some i
  ahead_there b whole k i there =
      let from : 0 + k ≡ k = omega arith in
      instr_there h 0 k i
      ((λ j. fetch h 0 (sym from j))
      ∙ row_at h 0 0 (allocas_ahead room f) k i ((has_code room f).allocas b whole) there)

  module _ (flat : (block at : ℕ) (i : Instr) → put_by (room block at i) ≡ 0) where
    pub own_flat : (block at : ℕ) → own_at room f block at ≡ ahead room f block + at
    own_flat block at =
        let none = nothing_put (room block) (flat block) (phi_count f block) (instrs_of f block) at in
        let past : at + 0 ≡ at = omega arith in
        (λ j. ahead room f block + (at + none j)) ∙ (λ j. ahead room f block + past j)

    -- an instruction of the function stands behind what is put in front
    pub own_there : (block p : ℕ) (i : Instr) → slice_get (instrs_of f block) p ≡ Some i
        → fetch h block (ahead room f block + p)
        ≡ AtInstr (elided_instr (name_at room f block p) (room_at room f block p i) i)
    own_there block p i there =
        (λ j. fetch h block (sym (own_flat block p) j)) ∙ (has_code room f).instr block p i there

    module _ (block at : ℕ) (j : Instr) (there : slice_get (instrs_of h block) at ≡ Some j) where
      -- behind the front
      behind : (p : ℕ) → at ≡ ahead room f block + p → p < length (instrs_of f block) → IsPlaced block at j
      behind p is lt =
          let x = element (instrs_of f block) p lt in
          Own p x.0 x.1 is
          (same_instr j _
          (sym (fetched h block at j there) ∙ ((λ n. fetch h block (is n)) ∙ own_there block p x.0 x.1)))

      within : (b : Block) → slice_get f.blocks block ≡ Some b
          → length (instrs_of h block) ≡ ahead room f block + length (instrs_of f block)
      within b whole =
          sym (end_at h block (own_at room f block (length b.instrs)) b.term ((has_code room f).term block b whole))
          ∙ (own_flat block (length b.instrs)
          ∙ ap (λ (o : Option Block). ahead room f block + length (instrs_in o)) (sym whole))

      in_front : (n : ℕ) → block ≡ n → at < ahead room f n → (b : Block) → slice_get f.blocks n ≡ Some b
          → IsPlaced block at j
      in_front zero is lt b whole =
          let x = element (allocas_ahead room f) at lt in
          Ahead is
          (x.1 ∙ (sym (ahead_there b whole at x.0 x.1)
          ∙ (ap (λ (n : ℕ). slice_get (instrs_of h n) at) (sym is) ∙ there)))
      in_front (suc n) is lt b whole = absurd (omega (arith, lt))

      by_block : (o : Option Block) → slice_get f.blocks block ≡ o → IsPlaced block at j
      by_block None none =
          absurd (nothing (sym (ap (λ (o : Option Block). slice_get (instrs_in o) at)
          (front_none (allocas_ahead room f) (elided_blocks room 0 (length f.names) f.blocks) block
          (blocks_none room 0 (length f.names) f.blocks block none))) ∙ there))
        where
          nothing : None ≡ Some j → ⊥
          nothing e = cc
      by_block (Some b) whole = on (less_or at (ahead room f block))
        where
          on : (at < ahead room f block) ⊎ (ahead room f block ≤ at) → IsPlaced block at j
          on (inl lt) = in_front block refl lt b whole
          on (inr le) =
              let lt = get_within (instrs_of h block) at j there in
              let long = within b whole in
              behind (at - ahead room f block) (omega (arith, le)) (omega (arith, le, lt, long))

      pub placed : IsPlaced block at j
      placed = by_block (slice_get f.blocks block) refl
