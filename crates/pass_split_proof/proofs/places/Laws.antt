-- The places of a function in what splitting makes of it, of coroutines and of other functions.
use Rattle.std.proofs.Common.{◌≡◌, inl, ℕ, Bool, true, false, List, ◌∷◌, ◌++◌, refl, sym, ap, ◌∙◌, subst}
use Rattle.std.specs.Prelude.{Some, if◌then◌else◌, map, slice_get}
use Rattle.pass_proofs.specs.flow_solver.Paths.{IsListed}
use Rattle.pass_proofs.specs.frame_layout.declared.layout.Layout.{Layout}
use Rattle.pass_proofs.proofs.ir_laws.paths.source_rules.Locals.{listed_right}
use Rattle.pass_proofs.specs.ir_model.declared.instr.Instr.{Instr}
use Rattle.pass_proofs.specs.ir_model.declared.instr.Phi.{Phi}
use Rattle.pass_proofs.specs.ir_model.declared.instr.Terminator.{Terminator}
use Rattle.pass_proofs.specs.ir_model.declared.module.Block.{Block}
use Rattle.pass_proofs.specs.ir_model.declared.module.Function.{Function}
use Rattle.pass_proofs.specs.ir_model.declared.module.Module.{Module}
use Rattle.pass_proofs.specs.ir_model.declared.operand.Callee.{Callee}
use Rattle.pass_proofs.specs.ir_model.declared.operand.Intrinsic.{Intrinsic}
use Rattle.pass_proofs.specs.ir_paths.Paths.{targets}
use Rattle.pass_proofs.specs.pass_intrinsics.Cuts.{cut_at, goes_on}
use Rattle.pass_proofs.specs.pass_intrinsics.Shapes.{shape_of}
use Rattle.pass_proofs.specs.pass_intrinsics.declared.cuts.Cut.{Cut}
use Rattle.pass_proofs.specs.pass_intrinsics.declared.shape.Part.{Part}
use Rattle.pass_proofs.specs.pass_intrinsics.declared.shape.Shape.{Shape}
use Rattle.pass_proofs.proofs.split.edges.Cuttable.{IsCuttable}
use Rattle.pass_proofs.proofs.split.edges.Rules.{stopped}
use Rattle.pass_proofs.proofs.split.edges.Sources.{cuttable}
use Rattle.pass_split_proof.proofs.places.Coded.{code_here, piece_spot, source_spot}
use Rattle.pass_split_proof.proofs.places.Fronts.{IsCutCode, end_here, end_leads, enters, led_on, source_listed}
use Rattle.pass_split_proof.proofs.places.Lines.{ahead_instr, ahead_term}
use Rattle.pass_split_proof.proofs.places.Parts.{end_bare, part_code}
use Rattle.pass_split_proof.proofs.places.Plain.{plain_code, plain_front}
use Rattle.pass_split_proof.proofs.places.Ramps.{ramp_front}
use Rattle.pass_split_proof.specs.places.Places.{BeginsAgain, Enters, IsCode, IsCodeOf, IsPlace, Leads, Marks, OfCoroutine, OfPlain, Returns, Stays, Suspends, Transfers, entering}
use Rattle.pass_proofs.specs.split.rules.Parted.{IsPartOf}
use Rattle.pass_proofs.specs.split.rules.Splittable.{IsSplittable}
use Rattle.pass_proofs.specs.pass_split.Parts.{plain_shape}
use Rattle.pass_proofs.specs.pass_split.Pieces.{begins_again, pieced_phi, redirected_term, stop_label}
use Rattle.pass_proofs.specs.rule_shape.Suspends.{is_suspend}
use Rattle.pass_proofs.specs.run_step.Step.{AtInstr, AtTerm, fetch, label_of}

pub code_of : (f g : Function) (s : Shape) (part : Part) → IsCodeOf f g s part → IsCutCode s part f g
code_of f g _ _ (OfCoroutine m k layout begin part x is) = part_code m k f g begin layout part x is
code_of f g _ _ (OfPlain m k coroutine rules same) = subst (IsCutCode (plain_shape f) Part.Ramp f) (sym same)
    (plain_code m k f coroutine rules)

pub front_of : (f g : Function) (s : Shape) (part : Part) (b : Block) → IsCodeOf f g s part → goes_on part ≡ false
    → slice_get f.blocks 0 ≡ Some b → IsPlace s part f g 0 0 0 0
front_of f g _ _ b (OfCoroutine m k layout begin part x is) ramp e = ramp_front m k f g begin layout part b x is ramp e
front_of f g _ _ b (OfPlain m k coroutine rules same) ramp e
    = subst (λ (h : Function). IsPlace (plain_shape f) Part.Ramp f h 0 0 0 0) (sym same)
    (plain_front m k f coroutine rules b e)

pub end_of : (f g : Function) (s : Shape) (part : Part) (block at piece offset : ℕ) (t : Terminator)
    → IsCodeOf f g s part → IsPlace s part f g block at piece offset → fetch f block at ≡ AtTerm t
    → (fetch g piece offset ≡ AtTerm (redirected_term s t)) × ((label : ℕ) → IsListed label (targets t)
    → Leads s part f g block piece label)
end_of f g s part block at piece offset t x p here =
    let c = code_of f g s part x in (
      end_here s part f g c block at piece offset p t here,
      λ label l. end_leads s part f g c block at piece offset p t
          here label l,
    )

-- ---- suspends

suspend_cuts : (s : Shape) (part : Part) (i : Instr) (after : List Instr) → is_suspend i ≡ true
    → cut_at s part i after ≡ Cut.Suspends
suspend_cuts s part (Instr.Call r must_tail ty (Callee.Intrinsic Intrinsic.CoroSuspend) args) after e = refl
suspend_cuts s part _ after e = absurd (cc)

suspend_goes_on : (part : Part) (i : Instr) → is_suspend i ≡ true → begins_again part i ≡ false
suspend_goes_on part (Instr.Call r must_tail ty (Callee.Intrinsic Intrinsic.CoroSuspend) args) e = on (goes_on part)
  where
    on : (b : Bool) → (if b then false else false) ≡ false
    on true = refl
    on false = refl
suspend_goes_on part _ e = absurd (cc)

-- at a suspend stands a jump to the stop edge's label
at_suspend : (s : Shape) (part : Part) (f g : Function) (block at piece offset : ℕ) (i : Instr) (after : List Instr)
    (t : Terminator) → is_suspend i ≡ true → IsCode s part f g block at piece offset i after t
    → fetch g piece offset ≡ AtTerm (Terminator.Jump (stop_label t))
at_suspend s part f g block at piece offset i after t e (Stays n again cuts new line place)
    = let no : Cut.Suspends ≡ Cut.Stays = sym (suspend_cuts s part i after e) ∙ cuts in absurd (cc)
at_suspend s part f g block at piece offset i after t e (Marks n mark again cuts new line bare place)
    = let no : Cut.Suspends ≡ Cut.Marks mark = sym (suspend_cuts s part i after e) ∙ cuts in absurd (cc)
at_suspend s part f g block at piece offset i after t e (Suspends again cuts here) = here
at_suspend s part f g block at piece offset i after t e (Returns again cuts here)
    = let no : Cut.Suspends ≡ Cut.Returns = sym (suspend_cuts s part i after e) ∙ cuts in absurd (cc)
at_suspend s part f g block at piece offset i after t e (Transfers n j again cuts new here bare line)
    = let no : Cut.Suspends ≡ Cut.Transfers j = sym (suspend_cuts s part i after e) ∙ cuts in absurd (cc)
at_suspend s part f g block at piece offset i after t e (BeginsAgain again here)
    = let no : false ≡ true = sym (suspend_goes_on part i e) ∙ again in absurd (cc)

module _ (m : Module) (k : ℕ) (f g : Function) (begin block at piece offset : ℕ) (i : Instr) (layout : Layout)
    (part : Part) (x : IsSplittable m k f begin) (is : IsPartOf (shape_of f layout) f part g)
    (p : IsPlace (shape_of f layout) part f g block at piece offset) (here : fetch f block at ≡ AtInstr i)
    (e : is_suspend i ≡ true) where
  abbrev s : Shape
  s = shape_of f layout

  code : IsCutCode s part f g
  code = part_code m k f g begin layout part x is

  ok : IsCuttable s part f
  ok = cuttable m k f begin x layout part

  ahead : (rest : List Instr) × (p.ahead ≡ i ∷ rest)
  ahead = ahead_instr f block p.source at i p.ahead (source_spot s part f g block at piece offset p) here

  listed : IsListed i p.source.instrs
  listed = subst (IsListed i) (sym (p.instrs ∙ ap (λ (is : List Instr). p.behind ++ is) ahead.1))
      (listed_right i p.behind (i ∷ ahead.0) (inl refl))

  in_f : IsListed p.source f.blocks
  in_f = source_listed s part f g code block at piece offset p

  pub stop_jump : fetch g piece offset ≡ AtTerm (Terminator.Jump (shape_of f layout).end)
  stop_jump =
      at_suspend s part f g block at piece offset i ahead.0 p.source.term e
      (code_here s part f g block at piece offset p i ahead.0 ahead.1)
      ∙ ap (λ (n : ℕ). AtTerm (Terminator.Jump n)) (ok.stop p.source i in_f listed e)

  jumps : p.target.term ≡ Terminator.Jump s.end
  jumps = (ahead_term g piece p.target offset (Terminator.Jump s.end) p.first.instrs
      (piece_spot s part f g block at piece offset p) stop_jump).1

  pub stop_enters : Enters (shape_of f layout) part f g block piece (shape_of f layout).end
  stop_enters =
      let st = stopped m k f begin x layout p.source i in_f listed e in
      let old : IsListed s.end (targets p.source.term) = subst (λ (t : Terminator). IsListed s.end (targets t))
      (sym st.is) (inl refl) in
      enters s part f g code block piece s.end p.target p.stands ok.end_there
      (led_on s part f g code block at piece offset p s.end old)
      (λ b n same.
      let none = end_bare m k f begin x layout part b n same in
      ap (λ (ps : List Phi). entering p.target.label (map (pieced_phi s part code.origins b.label) ps)) none
      ∙ ap (entering (label_of (slice_get f.blocks block))) (sym none))
      (subst (λ (t : Terminator). IsListed s.end (targets t)) (sym jumps) (inl refl))

pub stop_of : (m : Module) (k : ℕ) (f g : Function) (begin block at piece offset : ℕ) (i : Instr) (layout : Layout)
    (part : Part) → IsSplittable m k f begin → IsPartOf (shape_of f layout) f part g
    → IsPlace (shape_of f layout) part f g block at piece offset → fetch f block at ≡ AtInstr i → is_suspend i ≡ true
    → (fetch g piece offset ≡ AtTerm (Terminator.Jump (shape_of f layout).end))
    × Enters (shape_of f layout) part f g block piece (shape_of f layout).end
stop_of m k f g begin block at piece offset i layout part x is p here e = (
  stop_jump m k f g begin block at piece offset i layout part x is p here e,
  stop_enters m k f g begin block at
      piece offset i layout part x is p here e,
)
