-- A part has markers of an alloca only where its function has some.
use Rattle.std.proofs.Common.{◌≡◌, ℕ, ◌≤◌, ⊎_elim, Bool, true, false, List, [], ◌∷◌, Option, Some, None, refl, ap, subst, sym, arith, ◌||◌}
use Rattle.std.proofs.lemmas.Bool.{false≢true, or_cases}
use Rattle.std.specs.List.{list_any}
use Rattle.pass_proofs.specs.ir_model.declared.instr.Instr.{Instr}
use Rattle.pass_proofs.specs.ir_model.declared.instr.Phi.{Phi}
use Rattle.pass_proofs.specs.ir_model.declared.instr.Terminator.{Terminator}
use Rattle.pass_proofs.specs.ir_model.declared.module.Block.{Block}
use Rattle.pass_proofs.specs.ir_model.declared.module.Function.{Function}
use Rattle.pass_proofs.specs.ir_model.declared.operand.Arg.{Arg}
use Rattle.pass_proofs.specs.ir_model.declared.operand.Callee.{Callee}
use Rattle.pass_proofs.specs.ir_model.declared.operand.Intrinsic.{Intrinsic}
use Rattle.pass_proofs.specs.pass_intrinsics.Lowered.{lowered, lowered_call, number_of_save, save_or_none}
use Rattle.pass_proofs.specs.pass_intrinsics.Shapes.{first_name, shape_of}
use Rattle.pass_proofs.specs.pass_intrinsics.declared.shape.Part.{Part}
use Rattle.pass_proofs.specs.pass_intrinsics.declared.shape.Shape.{Shape}
use Rattle.pass_proofs.proofs.split.rules.Carried.{Becomes, part_all, plain_all}
use Rattle.pass_proofs.specs.pass_split.Parts.{plain_shape}
use Rattle.pass_split_proof.specs.places.Places.{IsCodeOf, OfCoroutine, OfPlain}
use Rattle.pass_proofs.proofs.rule_laws.rules.replaced.Passed.{IsAll}
use Rattle.pass_proofs.specs.run_laws.changed.Changed.{Each}
use Rattle.pass_proofs.specs.run_step.Step.{has_markers, is_marker_of}

or_first : (a b : Bool) → a ≡ true → (a || b) ≡ true
or_first a b e = ap (λ (t : Bool). t || b) e

or_later : (a b : Bool) → b ≡ true → (a || b) ≡ true
or_later true b e = refl
or_later false b e = e

module _ (f : Function) (v : ℕ) where
  -- the function has markers if this is one
  abbrev IsOwn : Instr → Type 0
  IsOwn i = is_marker_of v i ≡ true → has_markers f v ≡ true

  abbrev AllOwn : Block → Type 0
  AllOwn = IsAll (λ (x : Phi). Unit {0}) IsOwn (λ (t : Terminator). Unit {0})

  -- ---- those of the function

  own_instrs : (is : List Instr) → (list_any (is_marker_of v) is ≡ true → has_markers f v ≡ true) → Each IsOwn is
  own_instrs [] h = tt
  own_instrs (i ∷ is) h = (
    λ e. h (or_first (is_marker_of v i) (list_any (is_marker_of v) is) e),
    own_instrs is (λ e. h (or_later (is_marker_of v i) (list_any (is_marker_of v) is) e)),
  )

  no_phis : (ps : List Phi) → Each (λ (x : Phi). Unit {0}) ps
  no_phis [] = tt
  no_phis (p ∷ ps) = (tt, no_phis ps)

  abbrev marks : Block → Bool
  marks b = list_any (is_marker_of v) b.instrs

  own_blocks : (bs : List Block) → (list_any marks bs ≡ true → has_markers f v ≡ true) → Each AllOwn bs
  own_blocks [] h = tt
  own_blocks (b ∷ bs) h = (
    record {
      phis = no_phis b.phis;
      instrs = own_instrs b.instrs (λ e. h (or_first (marks b) (list_any marks bs) e));
      term = tt;
    },
    own_blocks bs (λ e. h (or_later (marks b) (list_any marks bs) e)),
  )

  -- ---- and back

  from_instrs : (is : List Instr) → Each IsOwn is → list_any (is_marker_of v) is ≡ true → has_markers f v ≡ true
  from_instrs [] h e = absurd (false≢true e)
  from_instrs (i ∷ is) h e = ⊎_elim h.0 (from_instrs is h.1)
      (or_cases (is_marker_of v i) (list_any (is_marker_of v) is) e)

  from_blocks : (bs : List Block) → Each AllOwn bs → list_any marks bs ≡ true → has_markers f v ≡ true
  from_blocks [] h e = absurd (false≢true e)
  from_blocks (b ∷ bs) h e = ⊎_elim (from_instrs b.instrs h.0.instrs) (from_blocks bs h.1)
      (or_cases (marks b) (list_any marks bs) e)

  -- ---- what is lowered

  none : false ≡ true → has_markers f v ≡ true
  none e = absurd (false≢true e)

  module _ (s : Shape) (part : Part) (n : ℕ) where
    saves : (o : Option ℕ) → Each IsOwn (save_or_none s n o)
    saves None = tt
    saves (Some j) = (none, (none, (none, tt)))

    call_own : (i : Instr) (r : Option ℕ) (args : List Arg) (x : Intrinsic) → IsOwn i
        → Each IsOwn (lowered_call s part n i x r args)
    call_own i None args Intrinsic.CoroSizeI32 h = tt
    call_own i (Some r) args Intrinsic.CoroSizeI32 h = (none, tt)
    call_own i None args Intrinsic.CoroSizeI64 h = tt
    call_own i (Some r) args Intrinsic.CoroSizeI64 h = (none, tt)
    call_own i None args Intrinsic.CoroAlignI32 h = tt
    call_own i (Some r) args Intrinsic.CoroAlignI32 h = (none, tt)
    call_own i None args Intrinsic.CoroAlignI64 h = tt
    call_own i (Some r) args Intrinsic.CoroAlignI64 h = (none, tt)
    call_own i None args Intrinsic.CoroAlloc h = tt
    call_own i (Some r) args Intrinsic.CoroAlloc h = (none, tt)
    call_own i r args Intrinsic.CoroBegin h = (none, (none, (none, (none, tt))))
    call_own i None args Intrinsic.CoroFree h = tt
    call_own i (Some r) args Intrinsic.CoroFree h = (none, tt)
    call_own i None args Intrinsic.CoroFrame h = tt
    call_own i (Some r) args Intrinsic.CoroFrame h = (none, tt)
    call_own i r args Intrinsic.CoroSave h = saves (number_of_save s r)
    call_own i r args Intrinsic.CoroSuspend h = tt
    call_own i None args Intrinsic.CoroEnd h = tt
    call_own i (Some r) args Intrinsic.CoroEnd h = (none, tt)
    call_own i r args Intrinsic.CoroResume h = (none, (none, tt))
    call_own i r args Intrinsic.CoroDestroy h = (none, (none, (none, tt)))
    call_own i None args Intrinsic.CoroDone h = tt
    call_own i (Some r) args Intrinsic.CoroDone h = (none, (none, tt))
    call_own i None args Intrinsic.CoroPromise h = tt
    call_own i (Some r) args Intrinsic.CoroPromise h = (none, tt)
    call_own i r args Intrinsic.CoroId h = (h, tt)
    call_own i r args Intrinsic.LifetimeStart h = (h, tt)
    call_own i r args Intrinsic.LifetimeEnd h = (h, tt)
    call_own i r args Intrinsic.MemcpyI64 h = (h, tt)
    call_own i r args Intrinsic.MemcpyI32 h = (h, tt)

    lowered_own : (i : Instr) → IsOwn i → Each IsOwn (lowered s part n i)
    lowered_own (Instr.Call r must_tail ty (Callee.Intrinsic x) args) h
        = call_own (Instr.Call r must_tail ty (Callee.Intrinsic x) args) r args x h
    lowered_own (Instr.Call r must_tail ty (Callee.Named c) args) h = (h, tt)
    lowered_own (Instr.Call r must_tail ty (Callee.Allocator a) args) h = (h, tt)
    lowered_own (Instr.Call r must_tail ty (Callee.Local c) args) h = (h, tt)
    lowered_own (Instr.Binary r op flags ty left right) h = (h, tt)
    lowered_own (Instr.Icmp r pred ty left right) h = (h, tt)
    lowered_own (Instr.Select r c a b) h = (h, tt)
    lowered_own (Instr.Cast r op nneg arg to) h = (h, tt)
    lowered_own (Instr.Alloca r ty align) h = (h, tt)
    lowered_own (Instr.Load r ty x align) h = (h, tt)
    lowered_own (Instr.Store arg x align) h = (h, tt)
    lowered_own (Instr.Gep r inbounds ty base indices) h = (h, tt)

  becomes : (s : Shape) (part : Part) → Becomes s part 0 (λ (x : Phi). Unit {0}) (λ (x : Phi). Unit {0}) IsOwn IsOwn
      (λ (t : Terminator). Unit {0}) (λ (t : Terminator). Unit {0})
  becomes s part = record {
    phi = λ x y is h. tt;
    instr = λ n i low again h. lowered_own s part n i h;
    ending = λ t h. tt;
    ends = record { jump = λ label. tt; return = λ goes. tt; stop = tt };
    index = λ goes. (none, (none, tt));
    switch = λ goes flags. tt;
  }

  least : (n : ℕ) → 0 ≤ n
  least n = omega arith

  abbrev NoPhi : Phi → Type 0
  NoPhi x = Unit {0}

  abbrev NoTerm : Terminator → Type 0
  NoTerm t = Unit {0}

  code_own : (q : Function) (s : Shape) (part : Part) → IsCodeOf f q s part → Each AllOwn q.blocks
  code_own q _ _ (OfCoroutine m k layout begin part x is) =
      part_all (shape_of f layout) part 0 NoPhi NoPhi IsOwn IsOwn NoTerm NoTerm (becomes (shape_of f layout) part)
      (least (first_name (shape_of f layout))) f q is (own_blocks f.blocks (λ e. e))
  code_own q _ _ (OfPlain m k plain rules same) = subst (λ (g : Function). Each AllOwn g.blocks) (sym same)
      (plain_all (plain_shape f) 0 NoPhi NoPhi IsOwn IsOwn NoTerm NoTerm (becomes (plain_shape f) Part.Ramp)
      (least (plain_shape f).base) f (own_blocks f.blocks (λ e. e)))

  pub markers_from : (q : Function) (s : Shape) (part : Part) → IsCodeOf f q s part → has_markers q v ≡ true
      → has_markers f v ≡ true
  markers_from q s part code e = from_blocks q.blocks (code_own q s part code) e
