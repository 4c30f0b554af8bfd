-- The alloca of a call that gives one stands among those in front of the entry block.
use Rattle.std.proofs.Common.{◌≡◌, ◌+◌, ℕ, zero, suc, List, [], ◌∷◌, ◌++◌, length, Option, refl, ap, ◌∙◌, subst, arith, ◌<◌, sym}
use Rattle.std.specs.Prelude.{None, Some, slice_get}
use Rattle.pass_elide.specs.Elided.{block_frames, blocks_frames, frame_allocas, frames_by, function_frames, instr_frames}
use Rattle.pass_elide.specs.declared.given.GivenFrame.{GivenFrame}
use Rattle.pass_elide_proof.specs.Places.{Rooms, allocas_ahead, instrs_in, instrs_of, name_at, phi_count, room_at, rooms_before, rooms_up_to}
use Rattle.pass_proofs.proofs.ir_laws.facts.Lists.{get_behind, get_within, of_first}
use Rattle.pass_proofs.specs.ir_model.Ty.{array, int}
use Rattle.pass_proofs.specs.ir_model.declared.instr.Instr.{Instr}
use Rattle.pass_proofs.specs.ir_model.declared.module.Block.{Block}
use Rattle.pass_proofs.specs.ir_model.declared.module.Function.{Function}
use Rattle.pass_proofs.specs.run_laws.changed.Changed.{Each}
use Rattle.pass_proofs.specs.run_step.Step.{phis_of}

-- ---- rooms in their order

instr_room : (room : ℕ → Instr → Option GivenFrame) (at : ℕ) (is : List Instr) (k p : ℕ) (i : Instr)
    (g : GivenFrame) → slice_get is k ≡ Some i → p ≡ at + k → room p i ≡ Some g
    → slice_get (instr_frames room at is) (rooms_up_to room at is k) ≡ Some g
instr_room room at [] k p i g there pe is = absurd (cc)
instr_room room at (x ∷ xs) zero p i g there pe is =
    let same : x ≡ i = cc in
    let here : at ≡ p = omega (arith, pe) in
    first (room at x) ((λ j. room (here j) (same j)) ∙ is)
  where
    first : (o : Option GivenFrame) → o ≡ Some g
        → slice_get (frames_by o ++ instr_frames room (at + 1) xs) 0 ≡ Some g
    first None e = absurd (cc)
    first (Some h) e = e
instr_room room at (x ∷ xs) (suc k) p i g there pe is =
    get_behind (frames_by (room at x)) (instr_frames room (at + 1) xs) (rooms_up_to room (at + 1) xs k)
    ∙ instr_room room (at + 1) xs k p i g there (omega (arith, pe)) is

block_room : (room : Rooms) (block : ℕ) (bs : List Block) (k p q : ℕ) (b : Block) (g : GivenFrame)
    → slice_get bs k ≡ Some b → p ≡ block + k → slice_get (block_frames room p b) q ≡ Some g
    → slice_get (blocks_frames room block bs) (rooms_before room block bs k + q) ≡ Some g
block_room room block [] k p q b g there pe is = absurd (cc)
block_room room block (c ∷ cs) zero p q b g there pe is =
    let same : c ≡ b = cc in
    let here : block ≡ p = omega (arith, pe) in
    let first : 0 + q ≡ q = omega arith in
    ap (slice_get (block_frames room block c ++ blocks_frames room (block + 1) cs)) first
    ∙ of_first (block_frames room block c) (blocks_frames room (block + 1) cs) q g
    ((λ j. slice_get (block_frames room (here j) (same j)) q) ∙ is)
block_room room block (c ∷ cs) (suc k) p q b g there pe is =
    let onto : length (block_frames room block c) + rooms_before room (block + 1) cs k + q
    ≡ length (block_frames room block c) + (rooms_before room (block + 1) cs k + q) = omega arith in
    ap (slice_get (block_frames room block c ++ blocks_frames room (block + 1) cs)) onto
    ∙ (get_behind (block_frames room block c) (blocks_frames room (block + 1) cs)
    (rooms_before room (block + 1) cs k + q)
    ∙ block_room room (block + 1) cs k p q b g there (omega (arith, pe)) is)

-- ---- allocas in their order

each_alloca : (P : Instr → Type 0) (n : ℕ) (rs : List GivenFrame) (k name size align : ℕ)
    → Each P (frame_allocas n rs) → slice_get rs k ≡ Some (GivenFrame.Alloca size align) → name ≡ n + k
    → P (Instr.Alloca name (array size (int 8)) align)
each_alloca P n [] k name size align h there e = absurd (cc)
each_alloca P n (GivenFrame.Alloca s a ∷ rs) zero name size align h there e =
    let large : s ≡ size = cc in
    let fits : a ≡ align = cc in
    let here : n ≡ name = omega (arith, e) in
    subst P (λ j. Instr.Alloca (here j) (array (large j) (int 8)) (fits j)) h.0
each_alloca P n (GivenFrame.Alloca s a ∷ rs) (suc k) name size align h there e =
    each_alloca P (n + 1) rs k name size align h.1 there (omega (arith, e))
each_alloca P n (GivenFrame.Field base distance ∷ rs) zero name size align h there e = absurd (cc)
each_alloca P n (GivenFrame.Field base distance ∷ rs) (suc k) name size align h there e =
    each_alloca P (n + 1) rs k name size align h there (omega (arith, e))

module _ (room : Rooms) (f : Function) (block at : ℕ) (i : Instr) (size align : ℕ) where
  room_there : slice_get (instrs_of f block) at ≡ Some i
      → room_at room f block at i ≡ Some (GivenFrame.Alloca size align)
      → slice_get (function_frames room f)
      (rooms_before room 0 f.blocks block + rooms_up_to (room block) (phi_count f block) (instrs_of f block) at)
      ≡ Some (GivenFrame.Alloca size align)
  room_there there is = on (slice_get f.blocks block) refl there is
    where
      on : (o : Option Block) → slice_get f.blocks block ≡ o → slice_get (instrs_in o) at ≡ Some i
          → room block (length (phis_of o) + at) i ≡ Some (GivenFrame.Alloca size align)
          → slice_get (function_frames room f)
          (rooms_before room 0 f.blocks block + rooms_up_to (room block) (length (phis_of o)) (instrs_in o) at)
          ≡ Some (GivenFrame.Alloca size align)
      on None e there is = absurd (cc)
      on (Some b) e there is =
          block_room room 0 f.blocks block block (rooms_up_to (room block) (length b.phis) b.instrs at) b
          (GivenFrame.Alloca size align) e (omega arith)
          (instr_room (room block) (length b.phis) b.instrs at (length b.phis + at) i (GivenFrame.Alloca size align)
          there refl is)

  -- what holds of each alloca in front holds of that of the call
  pub alloca_there : (P : Instr → Type 0) → Each P (allocas_ahead room f)
      → slice_get (instrs_of f block) at ≡ Some i
      → room_at room f block at i ≡ Some (GivenFrame.Alloca size align)
      → P (Instr.Alloca (name_at room f block at) (array size (int 8)) align)
  alloca_there P h there is =
      each_alloca P (length f.names) (function_frames room f)
      (rooms_before room 0 f.blocks block + rooms_up_to (room block) (phi_count f block) (instrs_of f block) at)
      (name_at room f block at) size align h (room_there there is) refl

-- ---- two calls with one name are one

one_frame : (o : Option GivenFrame) (g : GivenFrame) → o ≡ Some g → length (frames_by o) ≡ 1
one_frame None g e = absurd (cc)
one_frame (Some h) g e = refl

same_instr_at : (room : ℕ → Instr → Option GivenFrame) (at : ℕ) (is : List Instr) (k l p q : ℕ) (i j : Instr)
    (g h : GivenFrame) → slice_get is k ≡ Some i → slice_get is l ≡ Some j → p ≡ at + k → q ≡ at + l
    → room p i ≡ Some g → room q j ≡ Some h → rooms_up_to room at is k ≡ rooms_up_to room at is l → k ≡ l
same_instr_at room at [] k l p q i j g h there to pe qe is js e = absurd (cc)
same_instr_at room at (x ∷ xs) zero zero p q i j g h there to pe qe is js e = refl
same_instr_at room at (x ∷ xs) zero (suc l) p q i j g h there to pe qe is js e =
    let same : x ≡ i = cc in
    let here : at ≡ p = omega (arith, pe) in
    let one = one_frame (room at x) g ((λ n. room (here n) (same n)) ∙ is) in
    absurd (omega (arith, e, one))
same_instr_at room at (x ∷ xs) (suc k) zero p q i j g h there to pe qe is js e =
    let same : x ≡ j = cc in
    let here : at ≡ q = omega (arith, qe) in
    let one = one_frame (room at x) h ((λ n. room (here n) (same n)) ∙ js) in
    absurd (omega (arith, e, one))
same_instr_at room at (x ∷ xs) (suc k) (suc l) p q i j g h there to pe qe is js e =
    ap suc (same_instr_at room (at + 1) xs k l p q i j g h there to (omega (arith, pe)) (omega (arith, qe)) is js
    (omega (arith, e)))

same_block_at : (room : Rooms) (block : ℕ) (bs : List Block) (k l m n p q : ℕ) (b c : Block)
    → slice_get bs k ≡ Some b → slice_get bs l ≡ Some c → p ≡ block + k → q ≡ block + l
    → m < length (block_frames room p b) → n < length (block_frames room q c)
    → rooms_before room block bs k + m ≡ rooms_before room block bs l + n → (k ≡ l) × (m ≡ n)
same_block_at room block [] k l m n p q b c there to pe qe lt gt e = absurd (cc)
same_block_at room block (x ∷ xs) zero zero m n p q b c there to pe qe lt gt e = (refl, omega (arith, e))
same_block_at room block (x ∷ xs) zero (suc l) m n p q b c there to pe qe lt gt e =
    let same : x ≡ b = cc in
    let here : block ≡ p = omega (arith, pe) in
    let long : length (block_frames room block x) ≡ length (block_frames room p b)
    = λ j. length (block_frames room (here j) (same j)) in
    absurd (omega (arith, e, lt, long))
same_block_at room block (x ∷ xs) (suc k) zero m n p q b c there to pe qe lt gt e =
    let same : x ≡ c = cc in
    let here : block ≡ q = omega (arith, qe) in
    let long : length (block_frames room block x) ≡ length (block_frames room q c)
    = λ j. length (block_frames room (here j) (same j)) in
    absurd (omega (arith, e, gt, long))
same_block_at room block (x ∷ xs) (suc k) (suc l) m n p q b c there to pe qe lt gt e =
    let rest = same_block_at room (block + 1) xs k l m n p q b c there to (omega (arith, pe)) (omega (arith, qe)) lt gt
    (omega (arith, e)) in
    (ap suc rest.0, rest.1)

module _ (room : Rooms) (f : Function) (block at other to : ℕ) (i j : Instr) (g h : GivenFrame) where
  -- by the blocks in which they stand
  names_apart : (o p : Option Block) → slice_get f.blocks block ≡ o → slice_get f.blocks other ≡ p
      → slice_get (instrs_in o) at ≡ Some i → slice_get (instrs_in p) to ≡ Some j
      → room block (length (phis_of o) + at) i ≡ Some g → room other (length (phis_of p) + to) j ≡ Some h
      → rooms_before room 0 f.blocks block + rooms_up_to (room block) (length (phis_of o)) (instrs_in o) at
      ≡ rooms_before room 0 f.blocks other + rooms_up_to (room other) (length (phis_of p)) (instrs_in p) to
      → (block ≡ other) × (at ≡ to)
  names_apart None p eo ep there yonder is js e = absurd (cc)
  names_apart (Some b) None eo ep there yonder is js e = absurd (cc)
  names_apart (Some b) (Some c) eo ep there yonder is js e =
      let mine = instr_room (room block) (length b.phis) b.instrs at (length b.phis + at) i g there refl is in
      let theirs = instr_room (room other) (length c.phis) c.instrs to (length c.phis + to) j h yonder refl js in
      let same = same_block_at room 0 f.blocks block other (rooms_up_to (room block) (length b.phis) b.instrs at)
      (rooms_up_to (room other) (length c.phis) c.instrs to) block other b c eo ep (omega arith) (omega arith)
      (get_within (block_frames room block b) (rooms_up_to (room block) (length b.phis) b.instrs at) g mine)
      (get_within (block_frames room other c) (rooms_up_to (room other) (length c.phis) c.instrs to) h theirs) e in
      (same.0, in_block same.0 same.1)
    where
      in_block : block ≡ other
          → rooms_up_to (room block) (length b.phis) b.instrs at ≡ rooms_up_to (room other) (length c.phis) c.instrs to
          → at ≡ to
      in_block same count =
          let one : b ≡ c = let found : Some b ≡ Some c = sym eo ∙ (ap (slice_get f.blocks) same ∙ ep) in cc in
          same_instr_at (room block) (length b.phis) b.instrs at to (length b.phis + at) (length b.phis + to) i j g h
          there (ap (λ (x : Block). slice_get x.instrs to) one ∙ yonder) refl refl is
          ((λ k. room (same k) (length (one k).phis + to) j) ∙ js)
          (count ∙ (λ k. rooms_up_to (room (sym same k)) (length (sym one k).phis) (sym one k).instrs to))

  pub same_call : slice_get (instrs_of f block) at ≡ Some i → slice_get (instrs_of f other) to ≡ Some j
      → room_at room f block at i ≡ Some g → room_at room f other to j ≡ Some h
      → name_at room f block at ≡ name_at room f other to → (block ≡ other) × (at ≡ to)
  same_call there yonder is js e =
      names_apart (slice_get f.blocks block) (slice_get f.blocks other) refl refl there yonder is js (omega (arith, e))
