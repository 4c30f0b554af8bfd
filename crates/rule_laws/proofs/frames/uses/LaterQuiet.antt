-- In a part that goes on behind a suspend: a value that isn't needed isn't used.
use Rattle.std.proofs.Common.{◌≡◌, ℕ, Bool, true, false, List, [], ◌∷◌, ◌++◌, length, refl, sym, ap, ◌∙◌, subst, arith}
use Rattle.std.specs.Prelude.{None, Option, Some, slice_get, if◌then◌else◌}
use Rattle.ir_laws.proofs.paths.crossing.Spots.{Spot, spot_instr, spot_term}
use Rattle.rule_shape.specs.OneOfEach.{wrong_call}
use Rattle.ir_laws.specs.facts.renamed.Regular.{passes}
use Rattle.rule_laws.proofs.rules.source_rules.Ends.{end_first}
use Rattle.rule_laws.proofs.rules.source_rules.Locals.{own_label}
use Rattle.rule_phis.specs.Edges.{first_wrong_edge}
use Rattle.ir_laws.specs.flow_solver.Paths.{IsListed}
use Rattle.ir_parts.specs.Locals.{locals_of}
use Rattle.pass_intrinsics.specs.Cuts.{cut_at, goes_on}
use Rattle.pass_intrinsics.specs.declared.cuts.Cut.{Cut}
use Rattle.pass_intrinsics.specs.declared.shape.Part.{Part}
use Rattle.pass_intrinsics.specs.declared.shape.Shape.{Shape}
use Rattle.ir_laws.specs.ir_model.declared.instr.Instr.{Instr}
use Rattle.ir_laws.specs.ir_model.declared.module.Block.{Block}
use Rattle.ir_laws.specs.ir_model.declared.module.Function.{Function}
use Rattle.ir_laws.specs.ir_model.declared.operand.Callee.{Callee}
use Rattle.ir_laws.specs.ir_model.declared.operand.Intrinsic.{Intrinsic}
use Rattle.ir_laws.specs.ir_paths.Paths.{targets}
use Rattle.ir_laws.specs.ir_paths.Windows.{end_block, instr_in, is_call_of}
use Rattle.rule_names.specs.Definitions.{first_twice}
use Rattle.ir_laws.specs.run_step.Step.{Fetched, fetch}
use Rattle.rule_laws.proofs.frames.uses.Lowering.{ComesBy, OfBegin, OfGiven, OfOperand}
use Rattle.rule_laws.proofs.frames.uses.PhiEdges.{phi_source, used_on}
use Rattle.rule_laws.proofs.frames.uses.Quiet.{IsQuiet}
use Rattle.frame_contents.specs.frame_crossing.EdgeUses.{IsUsedOn}
use Rattle.frame_contents.specs.frame_crossing.Paths.{Across, BranchesTo, IsNeeded, Next, OnEdge, Use, phis_at, phis_in, used_by}

get_there : (xs ys : List Instr) (y : Instr) → slice_get (xs ++ y ∷ ys) (length xs) ≡ Some y
get_there [] ys y = refl
get_there (x ∷ xs) ys y = get_there xs ys y

-- the instruction of a place
pub spot_get : (h : Function) (q at : ℕ) (b : Block) (i : Instr) (is : List Instr) → Spot h q at b (i ∷ is) → slice_get b.instrs at ≡ Some i
spot_get h q at b i is s = ap (slice_get b.instrs) (sym s.long) ∙ ap (λ (l : List Instr). slice_get l (length s.ahead)) s.is ∙ get_there s.ahead is i

all_behind : (xs : List Instr) → xs ++ [] ≡ xs
all_behind [] = refl
all_behind (x ∷ xs) = ap (λ (l : List Instr). x ∷ l) (all_behind xs)

none_long : (xs : List Instr) → length xs ≡ 0 → xs ≡ []
none_long [] e = refl
none_long (x ∷ xs) e = absurd (omega (arith, e))

module _ (k : ℕ) (f : Function) (coroutine : f.coroutine ≡ true) (calls : wrong_call k f ≡ None) (edges : first_wrong_edge k f ≡ None) (once : first_twice [] (locals_of k f) ≡ None) (s : Shape) (part : Part) (later : goes_on part ≡ true) (v : ℕ) (not_begin : v ≡ s.begin → ⊥) where
  -- the value isn't needed behind the front of the block
  abbrev pub IsQuietAt : ℕ → Type 0
  IsQuietAt q = (IsListed v (phis_at f q) → ⊥) → IsNeeded f v q 0 → ⊥

  -- nor from the place on, which is the first of its block, if that is the end's
  abbrev pub IsQuietFrom : ℕ → ℕ → Block → List Instr → Type 0
  IsQuietFrom q at b is = (IsNeeded f v q at → ⊥) × (q ≡ end_block f → at ≡ 0)

  -- the end stands first in its block
  at_end : (q at : ℕ) (b : Block) → slice_get f.blocks q ≡ Some b → q ≡ end_block f → at ≡ 0 → passes (is_call_of Intrinsic.CoroEnd) (slice_get b.instrs at) ≡ true
  at_end q at b got same first =
      ap (λ (n : ℕ). passes (is_call_of Intrinsic.CoroEnd) (slice_get b.instrs n)) first
      ∙ sym (ap (λ (o : Option Block). passes (is_call_of Intrinsic.CoroEnd) (instr_in o 0)) (ap (slice_get f.blocks) (sym same) ∙ got)) ∙ end_first k f coroutine calls

  end_cuts : (i : Instr) (is : List Instr) → is_call_of Intrinsic.CoroEnd i ≡ true → cut_at s part i is ≡ Cut.Returns
  end_cuts (Instr.Call r must_tail ty (Callee.Intrinsic Intrinsic.CoroEnd) args) is e = ap (λ (b : Bool). if b then Cut.Returns else Cut.Stays) later
  end_cuts _ is e = absurd (cc)

  outside : (q at : ℕ) (b : Block) (i : Instr) (is : List Instr) → Spot f q at b (i ∷ is) → (q ≡ end_block f → at ≡ 0) → (cut_at s part i is ≡ Cut.Returns → ⊥) → q ≡ end_block f → ⊥
  outside q at b i is spot first goes same = goes (end_cuts i is (sym (ap (passes (is_call_of Intrinsic.CoroEnd)) (spot_get f q at b i is spot)) ∙ at_end q at b spot.got same (first same)))

  outside_term : (q at : ℕ) (b : Block) → Spot f q at b [] → (q ≡ end_block f → at ≡ 0) → q ≡ end_block f → ⊥
  outside_term q at b spot first same =
      let long : length spot.ahead ≡ 0 = spot.long ∙ first same in
      let empty : b.instrs ≡ [] = spot.is ∙ all_behind spot.ahead ∙ none_long spot.ahead long in
      let t : false ≡ true = sym (ap (λ (is : List Instr). passes (is_call_of Intrinsic.CoroEnd) (slice_get is 0)) empty) ∙ at_end q 0 b spot.got same refl in
      absurd (cc)

  branches : (q at : ℕ) (b : Block) → Spot f q at b [] → (label : ℕ) → IsListed label (targets b.term) → BranchesTo label (fetch f q at)
  branches q at b spot label l = subst (BranchesTo label) (sym (spot_term f q at b spot)) l

  pub later_quiet : IsQuiet f f s part v IsQuietAt IsQuietFrom
  later_quiet =
      record {
        front = λ q b got a none. ((λ needed. a (λ l. none (subst (λ (o : Option Block). IsListed v (phis_in o)) got l)) needed), (λ e. refl));
        used = λ q at b i is spot n goes by. on q at b i is spot n goes by;
        next = λ q at b i is spot n goes other. (
          (λ needed. n.0 (Next q at i (outside q at b i is spot n.1 goes) (spot_instr f q at b i is spot) other needed)),
          (λ e. absurd (outside q at b i is spot n.1 goes e)),
        );
        term = λ q at b spot n l. n.0 (Use q at (outside_term q at b spot n.1) (subst (λ (x : Fetched). IsListed v (used_by x)) (sym (spot_term f q at b spot)) l));
        edge = λ q at b spot n label l phis needed. n.0 (Across q at label (outside_term q at b spot n.1) (branches q at b spot label l) phis needed);
        phi = λ q at b spot n to c x i got phi incoming local from.
            let source = phi_source k f edges once to c x i got phi incoming in
            let both : Some b ≡ Some source.0 = sym spot.got ∙ ap (slice_get f.blocks) (sym from) ∙ source.1.0 in
            let same : b ≡ source.0 = cc in
            n.0
            (OnEdge q at c.label (outside_term q at b spot n.1) (branches q at b spot c.label (subst (λ (y : Block). IsListed c.label (targets y.term)) (sym same) source.1.1.1))
            (subst (λ (z : ℕ). IsUsedOn f v q z) (sym (own_label k f once to c got)) (subst (λ (z : ℕ). IsUsedOn f v z to) from (used_on f v i local to c x got phi incoming))));
      }
    where
      on : (q at : ℕ) (b : Block) (i : Instr) (is : List Instr) → Spot f q at b (i ∷ is) → IsQuietFrom q at b (i ∷ is) → (cut_at s part i is ≡ Cut.Returns → ⊥) → ComesBy f s part i v → ⊥
      on q at b i is spot n goes (OfOperand p l) = n.0 (Use q at (outside q at b i is spot n.1 goes) (subst (λ (x : Fetched). IsListed v (used_by x)) (sym (spot_instr f q at b i is spot)) l))
      on q at b i is spot n goes (OfBegin e a) = not_begin e
      on q at b i is spot n goes (OfGiven e same) = let t : true ≡ false = sym later ∙ ap goes_on e in absurd (cc)
