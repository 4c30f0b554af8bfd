-- What the passes leave holds no coro intrinsic and no coroutine.
use Rattle.std.proofs.Common.{◌≡◌, ℕ, Bool, true, false, List, [], ◌∷◌, ◌++◌, refl, sym, ap, subst, ◌∙◌, Option, Some, None, Ok, Err}
use Rattle.std.specs.Prelude.{◌+◌, not, cond, filter, map, if◌then◌else◌, ◌&&◌, ◌||◌, ℤ, pos, Result, IfOk}
use Rattle.std.specs.List.{list_all}
use Rattle.ir_base.specs.declared.status.Options.{Options}
use Rattle.pass_cleanup.proofs.Freed.{module_freed}
use Rattle.pass_cleanup.specs.Cleanup.{clean_function, is_kept_instr}
use Rattle.pass_cleanup.specs.Free.{calls_id_alone, is_free}
use Rattle.pass_split.specs.Given.{has_given_call}
use Rattle.pass_split.specs.Parts.{back_blocks, done_block, entry_instrs, first_layout, given_parts, given_ramp_of, head_blocks, later_part, layouts_after, marked_parts, origins_for, part_blocks, parts_of, plain_of, plain_shape, ramp_of, split_function, split_functions, split_module}
use Rattle.pass_proofs.specs.pass_front.Front.{allocas_of, is_alloca}
use Rattle.pass_split.specs.Pieces.{all_pieces, begins_again, first_piecing, next_piecing, pass_block, piece, pieced, pieces_of, piecing_of, redirected_term, stop_label, stopped, with_instr, with_instrs}
use Rattle.pass_split.specs.Reached.{is_flagged, kept_block, kept_blocks, pruned, reached}
use Rattle.pass_split.specs.declared.origin.Origin.{Origin}
use Rattle.pass_split.specs.declared.piecing.Piecing.{Piecing}
use Rattle.frame_layout.specs.declared.layout.Layout.{Layout}
use Rattle.frame_layout.specs.declared.layout.Layouts.{Layouts}
use Rattle.pass_proofs.specs.pass_intrinsics.Cuts.{cut_at}
use Rattle.pass_proofs.specs.pass_intrinsics.Lowered.{address, done_test, lowered, number_of_save, save_or_none, set_address, set_number, set_truth}
use Rattle.pass_proofs.specs.pass_intrinsics.Shapes.{first_name, index_bytes, index_name, pass_label, shape_of, slot_name}
use Rattle.pass_proofs.specs.pass_intrinsics.declared.cuts.Cut.{Cut}
use Rattle.pass_proofs.specs.pass_intrinsics.declared.shape.Part.{Part}
use Rattle.pass_proofs.specs.pass_intrinsics.declared.shape.Shape.{Shape}
use Rattle.pass_proofs.specs.pass_intrinsics.declared.shape.SuspendPoint.{SuspendPoint}
use Rattle.ir_model.specs.Ty.{Ty, int}
use Rattle.ir_model.specs.TypeView.{bits_of}
use Rattle.ir_model.specs.declared.instr.Instr.{Instr}
use Rattle.ir_model.specs.declared.instr.Phi.{Phi}
use Rattle.ir_model.specs.declared.instr.Terminator.{Terminator}
use Rattle.ir_model.specs.declared.module.Block.{Block}
use Rattle.ir_model.specs.declared.module.Function.{Function}
use Rattle.ir_model.specs.declared.module.Module.{Module}
use Rattle.ir_model.specs.declared.operand.Arg.{Arg}
use Rattle.ir_model.specs.declared.operand.Callee.{Callee}
use Rattle.ir_model.specs.declared.operand.Intrinsic.{Intrinsic}
use Rattle.ir_model.specs.declared.operand.Operand.{Operand}
use Rattle.text_parser.specs.Parse.{read_module}
use Rattle.text_parser.specs.declared.text.Parsed.{Parsed}
use Rattle.compiler.specs.Lowering.{IsDone, IsLowering, IsLoweringBy, IsLoweringOf, lowered_module}
use Rattle.compiler.specs.NoCoroutine.{LeavesNoCoroutine, has_no_coroutine}
use Rattle.compiler.specs.declared.lowered.Lowered.{Lowered}
use Rattle.compiler.specs.declared.lowered.Lowering.{Lowering}
use Rattle.frame_acceptance.specs.declared.accepting.Acceptance.{Acceptance}
use Rattle.pass_proofs.specs.pass_exits.ExitBlocks.{with_exit_blocks}

-- ---- lists

both : (a b : Bool) → a ≡ true → b ≡ true → (a && b) ≡ true
both a b p q = ap (λ c. c && b) p ∙ q

first_of_both : (a b : Bool) → (a && b) ≡ true → a ≡ true
first_of_both true b h = refl
first_of_both false b h = absurd (cc)

second_of_both : (a b : Bool) → (a && b) ≡ true → b ≡ true
second_of_both true b h = h
second_of_both false b h = absurd (cc)

all_joined : {A : Type 0} (t : A → Bool) (xs ys : List A) → list_all t xs ≡ true → list_all t ys ≡ true → list_all t (xs ++ ys) ≡ true
all_joined t [] ys h k = k
all_joined t (x ∷ xs) ys h k =
    both (t x) (list_all t (xs ++ ys)) (first_of_both (t x) (list_all t xs) h) (all_joined t xs ys (second_of_both (t x) (list_all t xs) h) k)

all_filtered : {A : Type 0} (t keep : A → Bool) (xs : List A) → list_all t xs ≡ true → list_all t (filter keep xs) ≡ true
all_filtered t keep [] h = refl
all_filtered t keep (x ∷ xs) h =
    on (keep x) (first_of_both (t x) (list_all t xs) h) (all_filtered t keep xs (second_of_both (t x) (list_all t xs) h))
  where
    on : (b : Bool) → t x ≡ true → list_all t (filter keep xs) ≡ true → list_all t (cond b (x ∷ filter keep xs) (filter keep xs)) ≡ true
    on true e again = both (t x) (list_all t (filter keep xs)) e again
    on false e again = again

all_where : {A : Type 0} (t keep : A → Bool) → ((x : A) → keep x ≡ true → t x ≡ true) → (xs : List A) → list_all t (filter keep xs) ≡ true
all_where t keep h [] = refl
all_where t keep h (x ∷ xs) = on (keep x) refl (all_where t keep h xs)
  where
    on : (b : Bool) → keep x ≡ b → list_all t (filter keep xs) ≡ true → list_all t (cond b (x ∷ filter keep xs) (filter keep xs)) ≡ true
    on true e again = both (t x) (list_all t (filter keep xs)) (h x e) again
    on false e again = again

all_mapped : {A : Type 0} (t : A → Bool) (f : A → A) → ((x : A) → t x ≡ true → t (f x) ≡ true) → (xs : List A) → list_all t xs ≡ true → list_all t (map f xs) ≡ true
all_mapped t f h [] e = refl
all_mapped t f h (x ∷ xs) e =
    both (t (f x)) (list_all t (map f xs)) (h x (first_of_both (t x) (list_all t xs) e)) (all_mapped t f h xs (second_of_both (t x) (list_all t xs) e))

-- ---- what stands in the place of an instruction

abbrev is_id_or_free : Instr → Bool
is_id_or_free i = not (is_kept_instr i) || is_free i

abbrev is_fine_block : Block → Bool
is_fine_block b = list_all is_id_or_free b.instrs

abbrev is_fine : Function → Bool
is_fine f = list_all is_fine_block f.blocks

number_fine : (r : Option ℕ) (w k : ℕ) → list_all is_id_or_free (set_number r w k) ≡ true
number_fine None w k = refl
number_fine (Some r) w k = refl

truth_fine : (r : Option ℕ) (x : Operand) → list_all is_id_or_free (set_truth r x) ≡ true
truth_fine None x = refl
truth_fine (Some r) x = refl

address_fine : (r : Option ℕ) (p : Operand) (distance : ℤ) → list_all is_id_or_free (set_address r p distance) ≡ true
address_fine None p distance = refl
address_fine (Some r) p distance = refl

done_fine : (n : ℕ) (r : Option ℕ) (p : Operand) → list_all is_id_or_free (done_test n r p) ≡ true
done_fine n None p = refl
done_fine n (Some r) p = refl

save_fine : (s : Shape) (n : ℕ) (j : Option ℕ) → list_all is_id_or_free (save_or_none s n j) ≡ true
save_fine s n None = refl
save_fine s n (Some j) = refl

call_fine : (s : Shape) (part : Part) (n : ℕ) (r : Option ℕ) (must_tail : Bool) (ty : Option Ty) (x : Intrinsic) (args : List Arg) → list_all is_id_or_free (lowered s part n (Instr.Call r must_tail ty (Callee.Intrinsic x) args)) ≡ true
call_fine s part n r must_tail ty Intrinsic.CoroId args = refl
call_fine s part n r must_tail ty Intrinsic.CoroSizeI32 args = number_fine r 32 s.size
call_fine s part n r must_tail ty Intrinsic.CoroSizeI64 args = number_fine r 64 s.size
call_fine s part n r must_tail ty Intrinsic.CoroAlignI32 args = number_fine r 32 s.align
call_fine s part n r must_tail ty Intrinsic.CoroAlignI64 args = number_fine r 64 s.align
call_fine s part n r must_tail ty Intrinsic.CoroAlloc args = truth_fine r _
call_fine s part n r must_tail ty Intrinsic.CoroBegin args = refl
call_fine s part n r must_tail ty Intrinsic.CoroFree args = address_fine r _ _
call_fine s part n r must_tail ty Intrinsic.CoroFrame args = address_fine r _ _
call_fine s part n r must_tail ty Intrinsic.CoroSave args = save_fine s n (number_of_save s r)
call_fine s part n r must_tail ty Intrinsic.CoroSuspend args = refl
call_fine s part n r must_tail ty Intrinsic.CoroEnd args = truth_fine r _
call_fine s part n r must_tail ty Intrinsic.CoroResume args = refl
call_fine s part n r must_tail ty Intrinsic.CoroDestroy args = refl
call_fine s part n r must_tail ty Intrinsic.CoroDone args = done_fine n r _
call_fine s part n r must_tail ty Intrinsic.CoroPromise args = address_fine r _ _
call_fine s part n r must_tail ty Intrinsic.LifetimeStart args = refl
call_fine s part n r must_tail ty Intrinsic.LifetimeEnd args = refl
call_fine s part n r must_tail ty Intrinsic.MemcpyI64 args = refl
call_fine s part n r must_tail ty Intrinsic.MemcpyI32 args = refl

lowered_fine : (s : Shape) (part : Part) (n : ℕ) (i : Instr) → list_all is_id_or_free (lowered s part n i) ≡ true
lowered_fine s part n (Instr.Binary result op flags ty left right) = refl
lowered_fine s part n (Instr.Icmp result pred ty left right) = refl
lowered_fine s part n (Instr.Select result c a b) = refl
lowered_fine s part n (Instr.Cast result op nneg arg to) = refl
lowered_fine s part n (Instr.Alloca result ty align) = refl
lowered_fine s part n (Instr.Load result ty address align) = refl
lowered_fine s part n (Instr.Store arg address align) = refl
lowered_fine s part n (Instr.Gep result inbounds ty base indices) = refl
lowered_fine s part n (Instr.Call result must_tail ty (Callee.Named name) args) = refl
lowered_fine s part n (Instr.Call result must_tail ty (Callee.Allocator a) args) = refl
lowered_fine s part n (Instr.Call result must_tail ty (Callee.Intrinsic x) args) = call_fine s part n result must_tail ty x args
lowered_fine s part n (Instr.Call result must_tail ty (Callee.Local v) args) = refl

-- ---- the pieces of a block

record Fine (p : Piecing) : Type 0 where
  whole : list_all is_fine_block p.whole ≡ true
  instrs : list_all is_id_or_free p.instrs ≡ true

added : (s : Shape) (part : Part) (p : Piecing) (i : Instr) → Fine p → list_all is_id_or_free (p.instrs ++ lowered s part p.next i) ≡ true
added s part p i h = all_joined is_id_or_free p.instrs (lowered s part p.next i) h.instrs (lowered_fine s part p.next i)

-- one block more, of fine instructions
ended : (p : Piecing) (label : ℕ) (phis : List Phi) (instrs : List Instr) (term : Terminator) → Fine p → list_all is_id_or_free instrs ≡ true →
    list_all is_fine_block (p.whole ++ record { label = label; phis = phis; instrs = instrs; term = term } ∷ []) ≡ true
ended p label phis instrs term h k =
    all_joined is_fine_block p.whole (record { label = label; phis = phis; instrs = instrs; term = term } ∷ []) h.whole (both (list_all is_id_or_free instrs) true k refl)

pieced_fine : (s : Shape) (part : Part) (p : Piecing) (i : Instr) (term : Terminator) (cut : Cut) → Fine p → Fine (pieced s part p i term cut)
pieced_fine s part p i term Cut.Stays h = record { whole = h.whole; instrs = added s part p i h }
pieced_fine s part p i term (Cut.Marks label) h =
    record { whole = ended p p.label p.phis (p.instrs ++ lowered s part p.next i) (Terminator.Jump label) h (added s part p i h); instrs = refl }
pieced_fine s part p i term Cut.Suspends h = record { whole = ended p p.label p.phis p.instrs (Terminator.Jump (stop_label term)) h h.instrs; instrs = refl }
pieced_fine s part p i term Cut.Returns h = record { whole = ended p p.label p.phis p.instrs (Terminator.Ret None) h h.instrs; instrs = refl }
pieced_fine s part p i term (Cut.Transfers j) h =
    record {
      whole =
          all_joined is_fine_block p.whole (piece p p.instrs (Terminator.Jump (pass_label s j)) ∷ pass_block (pass_label s j) (lowered s part p.next i) ∷ []) h.whole
          (both (list_all is_id_or_free p.instrs) (list_all is_id_or_free (lowered s part p.next i) && true) h.instrs
          (both (list_all is_id_or_free (lowered s part p.next i)) true (lowered_fine s part p.next i) refl));
      instrs = refl;
    }

one_fine : (b : Bool) (p q : Piecing) → Fine p → Fine q → Fine (if b then p else q)
one_fine true p q h k = h
one_fine false p q h k = k

stopped_fine : (p : Piecing) → Fine p → Fine (stopped p)
stopped_fine p h = record { whole = ended p p.label p.phis p.instrs Terminator.Unreachable h h.instrs; instrs = refl }

next_fine : (s : Shape) (part : Part) (term : Terminator) (p : Piecing) (i : Instr) (after : List Instr) → Fine p → Fine (next_piecing s part term p i after)
next_fine s part term p i after h =
    one_fine (begins_again part i) (stopped p) (pieced s part p i term (cut_at s part i after)) (stopped_fine p h) (pieced_fine s part p i term (cut_at s part i after) h)

with_instrs_fine : (s : Shape) (part : Part) (term : Terminator) (p : Piecing) (is : List Instr) → Fine p → Fine (with_instrs s part term p is)
with_instrs_fine s part term p [] h = h
with_instrs_fine s part term p (i ∷ after) h =
    with_instrs_fine s part term (with_instr s part term p i after) after
    (one_fine p.ended p (next_piecing s part term p i after) h (next_fine s part term p i after h))

all_pieces_fine : (s : Shape) (p : Piecing) (term : Terminator) → Fine p → list_all is_fine_block (all_pieces s p term) ≡ true
all_pieces_fine s p term h = on p.ended
  where
    on : (b : Bool) → list_all is_fine_block (if b then p.whole else p.whole ++ piece p p.instrs (redirected_term s term) ∷ []) ≡ true
    on true = h.whole
    on false = ended p p.label p.phis p.instrs (redirected_term s term) h h.instrs

pieces_fine : (s : Shape) (part : Part) (origins : List Origin) (n : ℕ) (bs : List Block) → list_all is_fine_block (pieces_of s part origins n bs) ≡ true
pieces_fine s part origins n [] = refl
pieces_fine s part origins n (b ∷ bs) =
    all_joined is_fine_block (all_pieces s (piecing_of s part origins n b) b.term) (pieces_of s part origins (piecing_of s part origins n b).next bs)
    (all_pieces_fine s (piecing_of s part origins n b) b.term (with_instrs_fine s part b.term (first_piecing s part origins n b) b.instrs (record { whole = refl; instrs = refl })))
    (pieces_fine s part origins (piecing_of s part origins n b).next bs)

-- ---- the parts

alloca_fine : (i : Instr) → is_alloca i ≡ true → is_id_or_free i ≡ true
alloca_fine (Instr.Alloca result ty align) e = refl
alloca_fine (Instr.Binary result op flags ty left right) e = refl
alloca_fine (Instr.Icmp result pred ty left right) e = refl
alloca_fine (Instr.Select result c a b) e = refl
alloca_fine (Instr.Cast result op nneg arg to) e = refl
alloca_fine (Instr.Load result ty address align) e = refl
alloca_fine (Instr.Store arg address align) e = refl
alloca_fine (Instr.Gep result inbounds ty base indices) e = refl
alloca_fine (Instr.Call result must_tail ty callee args) e = absurd (cc)

allocas_fine : (bs : List Block) → list_all is_id_or_free (allocas_of bs) ≡ true
allocas_fine [] = refl
allocas_fine (b ∷ bs) = all_where is_id_or_free is_alloca alloca_fine b.instrs

abbrev slot_instrs : Shape → List Instr
slot_instrs s =
    address (slot_name s) (Operand.Local s.begin) (pos s.index)
    ∷ Instr.Load (index_name s) (int (bits_of s.width)) (Operand.Local (slot_name s)) (index_bytes s.width)
    ∷ []

entry_fine : (s : Shape) (bs : List Block) → list_all is_id_or_free (entry_instrs s bs) ≡ true
entry_fine s bs = all_joined is_id_or_free (allocas_of bs) (slot_instrs s) (allocas_fine bs) refl

backs_fine : (s : Shape) (part : Part) (j : ℕ) (ps : List SuspendPoint) → list_all is_fine_block (back_blocks s part j ps) ≡ true
backs_fine s part j [] = refl
backs_fine s part j (p ∷ ps) = backs_fine s part (j + 1) ps

head_fine : (s : Shape) (part : Part) (f : Function) → list_all is_fine_block (head_blocks s part f) ≡ true
head_fine s Part.Ramp f = refl
head_fine s Part.GivenRamp f = refl
head_fine s Part.Resume f = both _ _ (entry_fine s f.blocks) (backs_fine s Part.Resume 0 s.suspends)
head_fine s Part.Destroy f = both _ _ (entry_fine s f.blocks) (backs_fine s Part.Destroy 0 s.suspends)
head_fine s Part.Cleanup f = both _ _ (entry_fine s f.blocks) (backs_fine s Part.Cleanup 0 s.suspends)

part_fine : (s : Shape) (part : Part) (f : Function) (origins : List Origin) → list_all is_fine_block (part_blocks s part f origins) ≡ true
part_fine s part f origins =
    let head = head_blocks s part f in
    let pieces = pieces_of s part origins (first_name s) f.blocks in
    all_joined is_fine_block (head ++ pieces) (done_block s ∷ [])
    (all_joined is_fine_block head pieces (head_fine s part f) (pieces_fine s part origins (first_name s) f.blocks)) refl

kept_fine : (flags : List Bool) (bs : List Block) → list_all is_fine_block bs ≡ true → list_all is_fine_block (kept_blocks flags bs) ≡ true
kept_fine flags bs h =
    all_mapped is_fine_block (kept_block flags) (λ b e. e) (filter (λ b. is_flagged flags b.label) bs)
    (all_filtered is_fine_block (λ b. is_flagged flags b.label) bs h)

pruned_fine : (f : Function) → is_fine f ≡ true → is_fine (pruned f) ≡ true
pruned_fine f h = kept_fine (reached f) f.blocks h

-- ---- the module

-- neither a coroutine, nor with a call of a coro intrinsic but coro.id
abbrev is_split : Function → Bool
is_split f = not f.coroutine && is_fine f

parts_fine : (s : Shape) (given : Bool) (f : Function) → list_all is_split (parts_of s given f) ≡ true
parts_fine s given f =
    both _ _ (pruned_fine (ramp_of s f) (part_fine s Part.Ramp f (origins_for s Part.Ramp f)))
    (both _ _ (pruned_fine (later_part s Part.Resume s.resume_name f) (part_fine s Part.Resume f (origins_for s Part.Resume f)))
    (both _ _ (pruned_fine (later_part s Part.Destroy s.destroy_name f) (part_fine s Part.Destroy f (origins_for s Part.Destroy f))) (others given)))
  where
    others : (b : Bool) → list_all is_split (if b then given_parts s f else []) ≡ true
    others true =
        both _ _ (pruned_fine (later_part s Part.Cleanup s.cleanup_name f) (part_fine s Part.Cleanup f (origins_for s Part.Cleanup f)))
        (both _ _ (pruned_fine (given_ramp_of s f) (part_fine s Part.GivenRamp f (origins_for s Part.GivenRamp f))) refl)
    others false = refl

marked_fine : (l : Layout) (given : Bool) (f : Function) → list_all is_split (marked_parts l given f) ≡ true
marked_fine l given f = parts_fine (shape_of f l) given f

function_fine : (l : Layout) (given : Bool) (f : Function) → list_all is_split (split_function l given f) ≡ true
function_fine l given f = on f.coroutine
  where
    on : (b : Bool) → list_all is_split (if b then marked_parts l given (with_exit_blocks f) else plain_of (plain_shape f) f ∷ []) ≡ true
    on true = marked_fine l given (with_exit_blocks f)
    on false = both _ _ (pieces_fine (plain_shape f) Part.Ramp [] _ f.blocks) refl

functions_fine : (ls : List Layout) (m : Module) (fs : List Function) → list_all is_split (split_functions ls m fs) ≡ true
functions_fine ls m [] = refl
functions_fine ls m (f ∷ fs) =
    all_joined is_split (split_function (first_layout ls) (has_given_call m f) f) (split_functions (layouts_after f ls) m fs)
    (function_fine (first_layout ls) (has_given_call m f) f) (functions_fine (layouts_after f ls) m fs)

all_of_each : {A : Type 0} (t u : A → Bool) → ((x : A) → t x ≡ true → u x ≡ true) → (xs : List A) → list_all t xs ≡ true → list_all u xs ≡ true
all_of_each t u h [] e = refl
all_of_each t u h (x ∷ xs) e =
    both (u x) (list_all u xs) (h x (first_of_both (t x) (list_all t xs) e)) (all_of_each t u h xs (second_of_both (t x) (list_all t xs) e))

pub split_calls_id : (ls : Layouts) (m : Module) → calls_id_alone (split_module ls m) ≡ true
split_calls_id ls m =
    all_of_each is_split is_fine (λ f e. second_of_both (not f.coroutine) (is_fine f) e) (split_functions ls.coroutines m m.functions)
    (functions_fine ls.coroutines m m.functions)

abbrev is_ordinary : Function → Bool
is_ordinary f = not f.coroutine

pub split_all_plain : (ls : Layouts) (m : Module) → list_all (λ f. not f.coroutine) (split_module ls m).functions ≡ true
split_all_plain ls m =
    all_of_each is_split is_ordinary (λ f e. first_of_both (not f.coroutine) (is_fine f) e) (split_functions ls.coroutines m m.functions)
    (functions_fine ls.coroutines m m.functions)

all_ordinary : (ls : Layouts) (m : Module) → list_all is_ordinary (lowered_module ls m).functions ≡ true
all_ordinary ls m = all_mapped is_ordinary clean_function (λ f e. e) (split_functions ls.coroutines m m.functions) (split_all_plain ls m)

lowered_has_none : (ls : Layouts) (m : Module) → has_no_coroutine (lowered_module ls m) ≡ true
lowered_has_none ls m = both _ _ (all_ordinary ls m) (module_freed (split_module ls m) (split_calls_id ls m))

-- ---- the lowering of a text

done_has_none : (m : Module) (ls : Layouts) (l : Lowered) → IsDone m ls l → LeavesNoCoroutine (Lowering.Done l)
done_has_none m ls l h = ap (λ (x : Lowered). has_no_coroutine x.«module») h.is ∙ lowered_has_none ls h.framed

by_has_none : (m : Module) (a : Acceptance) (l : Lowering) → IsLoweringBy m a l → LeavesNoCoroutine l
by_has_none m (Acceptance.Refused r) l h = subst (λ (x : Lowering). LeavesNoCoroutine x) (sym h) tt
by_has_none m (Acceptance.Accepted ls) (Lowering.Done l) h = done_has_none m ls l h
by_has_none m (Acceptance.Accepted ls) (Lowering.Syntax items) h = absurd h
by_has_none m (Acceptance.Accepted ls) (Lowering.Refused n rule place) h = absurd h

text_has_none : (share : Bool) (p : Parsed) (l : Lowering) → IsLoweringOf share p l → LeavesNoCoroutine l
text_has_none share (Parsed.Syntax items) l h = subst (λ (x : Lowering). LeavesNoCoroutine x) (sym h) tt
text_has_none share (Parsed.Module m) l h = by_has_none m h.acceptance l h.comes

pub lowering_has_none : {E : Type 0} (options : Options) (text : List ℕ) (r : Result Lowering E) → IfOk r (λ l. IsLowering options text l) → IfOk r (λ l. LeavesNoCoroutine l)
unfolding IsLowering
lowering_has_none options text (Ok l) h = text_has_none options.share (read_module text) l h
lowering_has_none options text (Err x) h = h

pub lowering_by_has_none : {E : Type 0} (m : Module) (a : Acceptance) (r : Result Lowering E) → IfOk r (λ l. IsLoweringBy m a l) → IfOk r (λ l. LeavesNoCoroutine l)
lowering_by_has_none m a (Ok l) h = by_has_none m a l h
lowering_by_has_none m a (Err x) h = h
