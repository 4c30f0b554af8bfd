-- A function without saves has no windows, also where its calls give frames.
use Rattle.std.proofs.Common.{◌≡◌, ◌+◌, ℕ, suc, Bool, true, false, List, [], ◌∷◌, ◌++◌, length, refl, ap, ◌∙◌}
use Rattle.std.specs.Prelude.{Option, Some, None, filter_map, map, option_map, if◌then◌else◌}
use Rattle.pass_elide.specs.Elided.{block_frames, elided_blocks, elided_by, elided_function, elided_instrs, frame_allocas, frames_by, function_frames, given_call, with_front}
use Rattle.pass_elide.specs.declared.given.GivenFrame.{GivenFrame}
use Rattle.pass_elide_proof.proofs.GivingNone.{both_empty}
use Rattle.pass_elide_proof.specs.Places.{Rooms}
use Rattle.pass_proofs.specs.ir_model.Ty.{Ty}
use Rattle.pass_proofs.specs.ir_model.declared.instr.Instr.{Instr}
use Rattle.pass_proofs.specs.ir_model.declared.module.Block.{Block}
use Rattle.pass_proofs.specs.ir_model.declared.module.Function.{Function}
use Rattle.pass_proofs.specs.ir_model.declared.operand.Arg.{Arg}
use Rattle.pass_proofs.specs.ir_model.declared.operand.Callee.{Callee}
use Rattle.pass_proofs.specs.ir_model.declared.operand.Intrinsic.{Intrinsic}
use Rattle.pass_proofs.specs.ir_paths.Windows.{is_call_of, points_from, points_in, points_where, suspend_of, window_of, windows_of}
use Rattle.pass_proofs.specs.ir_paths.declared.point.Point.{Point}

abbrev is_save : Instr → Bool
is_save i = is_call_of Intrinsic.CoroSave i

both_none : {A : Type 0} (xs ys : List A) → xs ≡ [] → ys ≡ [] → xs ++ ys ≡ []
both_none xs ys h k = (λ i. h i ++ k i)

-- ---- one instruction

call_none : (n : ℕ) (result : Option ℕ) (must_tail : Bool) (ty : Option Ty) (callee : Callee) (args : List Arg)
    → is_save (Instr.Call result must_tail ty callee args) ≡ false
    → is_save (given_call n (Instr.Call result must_tail ty callee args)) ≡ false
call_none n result must_tail ty (Callee.Named g) args h = refl
call_none n result must_tail ty (Callee.Allocator a) args h = refl
call_none n result must_tail ty (Callee.Intrinsic i) args h = h
call_none n result must_tail ty (Callee.Local v) args h = refl

given_none : (n : ℕ) (i : Instr) → is_save i ≡ false → is_save (given_call n i) ≡ false
given_none n (Instr.Call result must_tail ty callee args) h = call_none n result must_tail ty callee args h
given_none n (Instr.Binary name op flags ty a b) h = refl
given_none n (Instr.Icmp name pred ty a b) h = refl
given_none n (Instr.Select name x a b) h = refl
given_none n (Instr.Cast name op nneg arg to) h = refl
given_none n (Instr.Alloca name ty align) h = refl
given_none n (Instr.Load name ty p align) h = refl
given_none n (Instr.Store arg p align) h = refl
given_none n (Instr.Gep name inbounds ty base indices) h = refl

-- no save stands there, nor further on
skipped : (b at : ℕ) (i : Instr) (rest : List Instr) → is_save i ≡ false → points_from is_save b (suc at) rest ≡ []
    → points_from is_save b at (i ∷ rest) ≡ []
skipped b at i rest bars h =
    ap (λ (t : Bool). if t then record { block = b; at = at } ∷ points_from is_save b (suc at) rest
    else points_from is_save b (suc at) rest) bars ∙ h

by_none : (b at n : ℕ) (o : Option GivenFrame) (i : Instr) (rest : List Instr) → is_save i ≡ false
    → ((k : ℕ) → points_from is_save b k rest ≡ []) → points_from is_save b at (elided_by n o i ++ rest) ≡ []
by_none b at n None i rest bars h = skipped b at i rest bars (h (suc at))
by_none b at n (Some (GivenFrame.Alloca size align)) i rest bars h =
    skipped b at (given_call n i) rest (given_none n i bars) (h (suc at))
by_none b at n (Some (GivenFrame.Field base distance)) i rest bars h =
    skipped b (suc at) (given_call n i) rest (given_none n i bars) (h (suc (suc at)))

-- ---- instructions

first_none : (b at : ℕ) (i : Instr) (rest : List Instr) → points_from is_save b at (i ∷ rest) ≡ []
    → (is_save i ≡ false) × (points_from is_save b (suc at) rest ≡ [])
first_none b at i rest h = on (is_save i) refl h
  where
    on : (t : Bool) → is_save i ≡ t
        → (if t then record { block = b; at = at } ∷ points_from is_save b (suc at) rest
        else points_from is_save b (suc at) rest) ≡ []
        → (is_save i ≡ false) × (points_from is_save b (suc at) rest ≡ [])
    on true is e = absurd (cc)
    on false is e = (is, e)

instrs_none : (room : ℕ → Instr → Option GivenFrame) (b from at n k : ℕ) (is : List Instr)
    → points_from is_save b from is ≡ [] → points_from is_save b k (elided_instrs room at n is) ≡ []
instrs_none room b from at n k [] h = refl
instrs_none room b from at n k (i ∷ is) h =
    let p = first_none b from i is h in
    by_none b k n (room at i) i (elided_instrs room (at + 1) (length (frames_by (room at i)) + n) is) p.0
    (λ j. instrs_none room b (suc from) (at + 1) (length (frames_by (room at i)) + n) j is p.1)

allocas_none : (b at n : ℕ) (rs : List GivenFrame) (rest : List Instr)
    → ((k : ℕ) → points_from is_save b k rest ≡ []) → points_from is_save b at (frame_allocas n rs ++ rest) ≡ []
allocas_none b at n [] rest h = h at
allocas_none b at n (GivenFrame.Alloca size align ∷ rs) rest h = allocas_none b (suc at) (n + 1) rs rest h
allocas_none b at n (GivenFrame.Field base distance ∷ rs) rest h = allocas_none b at (n + 1) rs rest h

-- ---- blocks

blocks_none : (room : Rooms) (s n b : ℕ) (bs : List Block) → points_in is_save b bs ≡ []
    → points_in is_save b (elided_blocks room s n bs) ≡ []
blocks_none room s n b [] h = refl
blocks_none room s n b (x ∷ xs) h =
    let p = both_empty (points_from is_save b 0 x.instrs) (points_in is_save (suc b) xs) h in
    both_none _ _
    (instrs_none (room s) b 0 (length x.phis) n 0 x.instrs p.0)
    (blocks_none room (s + 1) (length (block_frames room s x) + n) (suc b) xs p.1)

all_none : (room : Rooms) (n m : ℕ) (rs : List GivenFrame) (bs : List Block) → points_in is_save 0 bs ≡ []
    → points_in is_save 0 (with_front (frame_allocas m rs) (elided_blocks room 0 n bs)) ≡ []
all_none room n m rs [] h = refl
all_none room n m rs (x ∷ xs) h =
    let p = both_empty (points_from is_save 0 0 x.instrs) (points_in is_save 1 xs) h in
    both_none _ _
    (allocas_none 0 0 m rs (elided_instrs (room 0) (length x.phis) n x.instrs)
    (λ k. instrs_none (room 0) 0 0 (length x.phis) n k x.instrs p.0))
    (blocks_none room 1 (length (block_frames room 0 x) + n) 1 xs p.1)

-- ---- functions

no_windows : (f : Function) → points_where (is_call_of Intrinsic.CoroSave) f ≡ [] → windows_of f ≡ []
no_windows f h =
    ap (λ (ps : List Point). map (λ (q : Point × Point). window_of f q.0 q.1)
    (filter_map (λ save. option_map (λ suspend. (save, suspend)) (suspend_of f save)) ps)) h

pub elided_without : (room : Rooms) (f : Function) → points_where (is_call_of Intrinsic.CoroSave) f ≡ []
    → windows_of (elided_function room f) ≡ []
elided_without room f h =
    no_windows (elided_function room f)
    (all_none room (length f.names) (length f.names) (function_frames room f) f.blocks h)
