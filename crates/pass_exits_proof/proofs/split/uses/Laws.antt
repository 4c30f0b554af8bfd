-- The parts of a coroutine make what they use, name their own locals, and define each once.
use Rattle.std.proofs.Common.{◌≡◌, inl, ℕ, ◌+◌, ◌≤◌, Bool, true, List, [], ◌∷◌, ◌++◌, refl, sym, ap, ◌∙◌, subst, arith}
use Rattle.std.specs.Prelude.{None, Some, map, slice_get, if◌then◌else◌, ◌==◌}
use Rattle.pass_fetch_proof.specs.ir_base.declared.name.Name.{Name}
use Rattle.pass_split.specs.Parts.{back_blocks, done_block, entry_block, given_params, given_ramp_of, head_blocks, later_head, later_part, none_block, origins_for, part_blocks, part_names, ramp_of}
use Rattle.pass_split.specs.Pieces.{pieces_of}
use Rattle.pass_split.specs.Reached.{entry_of, is_flagged, pruned, reached}
use Rattle.pass_split.specs.declared.origin.Origin.{Origin}
use Rattle.pass_fetch_proof.specs.rule_uses.Undefined.{IsFirstUndefined, params_of}
use Rattle.pass_fetch_proof.specs.rule_uses.Uses.{uses_of}
use Rattle.pass_fetch_proof.specs.flow_solver.Paths.{IsListed}
use Rattle.pass_fetch_proof.specs.frame_layout.declared.layout.Layout.{Layout}
use Rattle.pass_fetch_proof.specs.ir_parts.Locals.{locals_of}
use Rattle.pass_fetch_proof.specs.pass_intrinsics.Cuts.{goes_on}
use Rattle.pass_fetch_proof.specs.pass_intrinsics.Shapes.{first_name, given_name, shape_of}
use Rattle.pass_fetch_proof.specs.pass_intrinsics.declared.shape.Part.{Part}
use Rattle.pass_fetch_proof.specs.pass_intrinsics.declared.shape.Shape.{Shape}
use Rattle.ir_model.specs.Names.{noalloc_of}
use Rattle.ir_model.specs.declared.module.Block.{Block}
use Rattle.ir_model.specs.declared.module.Function.{Function}
use Rattle.ir_model.specs.declared.module.Module.{Module}
use Rattle.ir_model.specs.declared.module.Param.{Param}
use Rattle.pass_fetch_proof.specs.rule_names.Definitions.{first_twice}
use Rattle.pass_exits_proof.proofs.split.edges.Entries.{first_unled}
use Rattle.pass_exits_proof.proofs.split.edges.Targets.{part_own, part_tabled}
use Rattle.pass_exits_proof.proofs.split.uses.Assembled.{ok, pieced}
use Rattle.pass_fetch_proof.proofs.rule_laws.rules.uses.Fine.{IsUnusedIn, none_undefined_in}
use Rattle.pass_exits_proof.proofs.split.uses.Known.{knows_locals}
use Rattle.pass_exits_proof.proofs.split.uses.Later.{later_unused}
use Rattle.pass_exits_proof.proofs.split.uses.Once.{frames, no_marks, none_new}
use Rattle.pass_exits_proof.proofs.split.uses.Groups.{groups}
use Rattle.pass_exits_proof.proofs.split.uses.OnceFront.{one_most}
use Rattle.pass_exits_proof.proofs.split.uses.OnceLater.{later_once}
use Rattle.pass_exits_proof.proofs.split.uses.OnceRamp.{ramp_once}
use Rattle.pass_exits_proof.proofs.split.uses.Paths.{IsPieced}
use Rattle.pass_exits_proof.proofs.split.uses.Ramp.{ramp_unused}
use Rattle.pass_exits_proof.proofs.split.rules.Reached.{led_is_flagged}
use Rattle.pass_fetch_proof.specs.rule_laws.rules.replaced.Instructions.{KnowsItsLocals}
use Rattle.pass_exits_proof.specs.split.rules.Parted.{IsCleanup, IsDestroy, IsGivenRamp, IsPartOf, IsRamp, IsResume}
use Rattle.pass_exits_proof.specs.split.rules.Reached.{Entry}
use Rattle.pass_exits_proof.specs.split.rules.Splittable.{IsSplittable}
use Rattle.pass_exits_proof.proofs.split.rules.GivenParams.{address_given, given_times, others_same, param_kept}
use Rattle.pass_fetch_proof.specs.ir_laws.facts.woven_rules.Pairs.{times}

-- ---- the ramps

module _ (m : Module) (k : ℕ) (f : Function) (begin : ℕ) (split : IsSplittable m k f begin) (layout : Layout) where
  own_unused : IsUnusedIn (pruned (ramp_of (shape_of f layout) f))
  own_unused = ramp_unused m k f begin split layout Part.Ramp refl f.name f.params (λ v l. l) (λ e. absurd (cc))

  given_unused : IsUnusedIn (pruned (given_ramp_of (shape_of f layout) f))
  given_unused =
      ramp_unused m k f begin split layout Part.GivenRamp refl (noalloc_of f.name) (given_params (shape_of f layout) f) (param_kept (shape_of f layout) f)
      (λ e. address_given (shape_of f layout) f)

  -- the address is none of the function's own parameters
  address_once : times (given_name (shape_of f layout)) (map (λ (p : Param). p.name) (given_params (shape_of f layout) f)) ≤ 1
  address_once =
      let all = given_times (shape_of f layout) f (given_name (shape_of f layout)) in
      let none = none_new m k f begin split layout (given_name (shape_of f layout)) (omega arith) in
      let one = one_most (given_name (shape_of f layout)) (given_name (shape_of f layout)) in
      omega (arith, all, none, one)

  none_given : times (given_name (shape_of f layout)) (params_of f) ≤ 1
  none_given = let none = none_new m k f begin split layout (given_name (shape_of f layout)) (omega arith) in omega (arith, none)

-- ---- the parts that go on

module _ (m : Module) (k : ℕ) (f : Function) (begin : ℕ) (split : IsSplittable m k f begin) (layout : Layout) (name : Name) (part : Part) (later : goes_on part ≡ true) where
  abbrev s : Shape
  s = shape_of f layout

  abbrev origins : List Origin
  origins = origins_for (shape_of f layout) part f

  abbrev pieces : List Block
  pieces = pieces_of s part origins (first_name s) f.blocks

  abbrev whole : Function
  whole = later_part (shape_of f layout) part name f

  head_is : head_blocks (shape_of f layout) part f ≡ later_head (shape_of f layout) (reached f) part f.blocks
  head_is = ap (λ (b : Bool). if b then later_head (shape_of f layout) (reached f) part f.blocks else []) later

  flagged : is_flagged (reached (later_part (shape_of f layout) part name f)) (entry_block (shape_of f layout) (reached f) part f.blocks).label ≡ true
  flagged =
      let label = (entry_block (shape_of f layout) (reached f) part f.blocks).label in
      led_is_flagged whole (part_tabled s part f (ok m k f begin split layout part) whole refl refl) label
      (Entry label (subst (λ (bs : List Block). IsListed label (entry_of ((bs ++ pieces) ++ done_block s ∷ []))) (sym head_is) (inl refl)))

  starts : (rest : List Block) × ((later_part (shape_of f layout) part name f).blocks ≡ entry_block (shape_of f layout) (reached f) part f.blocks ∷ rest)
  starts = (
    ((none_block s ∷ back_blocks s part 0 s.suspends) ++ pieces) ++ done_block s ∷ [],
    ap (λ (bs : List Block). (bs ++ pieces) ++ done_block s ∷ []) head_is,
  )

  part_that_goes_on_unused : IsUnusedIn (pruned (later_part (shape_of f layout) part name f))
  part_that_goes_on_unused =
      later_unused m k f begin split layout part later name (ok m k f begin split layout part)
      (subst (λ (bs : List Block). IsPieced f f s part origins bs (groups s part origins (first_name s) f.blocks) (later_part s part name f)) head_is (pieced m k f begin split layout part whole refl))
      flagged starts

  part_that_goes_on_known : (l : ℕ) → KnowsItsLocals l (pruned (later_part (shape_of f layout) part name f))
  part_that_goes_on_known l =
      knows_locals whole (part_tabled s part f (ok m k f begin split layout part) whole refl refl) (part_own s part f (ok m k f begin split layout part) whole refl refl) l part_that_goes_on_unused

pub part_unused : (m : Module) (k : ℕ) (layout : Layout) (part : Part) (begin : ℕ) (f g : Function) → IsSplittable m k f begin → IsPartOf (shape_of f layout) f part g → IsUnusedIn g
part_unused m k layout _ begin f _ split IsRamp = own_unused m k f begin split layout
part_unused m k layout _ begin f _ split IsGivenRamp = given_unused m k f begin split layout
part_unused m k layout _ begin f _ split IsResume = part_that_goes_on_unused m k f begin split layout (shape_of f layout).resume_name Part.Resume refl
part_unused m k layout _ begin f _ split IsDestroy = part_that_goes_on_unused m k f begin split layout (shape_of f layout).destroy_name Part.Destroy refl
part_unused m k layout _ begin f _ split IsCleanup = part_that_goes_on_unused m k f begin split layout (shape_of f layout).cleanup_name Part.Cleanup refl

pub uses_made : (m : Module) (k l : ℕ) (layout : Layout) (part : Part) (begin : ℕ) (f g : Function) → IsSplittable m k f begin → IsPartOf (shape_of f layout) f part g → IsFirstUndefined g (uses_of l g) None
uses_made m k l layout part begin f g split is = none_undefined_in g l (part_unused m k layout part begin f g split is)

ramp_known : (m : Module) (k l : ℕ) (layout : Layout) (part : Part) (begin : ℕ) (f whole : Function) → IsSplittable m k f begin → whole.blocks ≡ part_blocks (shape_of f layout) part f (origins_for (shape_of f layout) part f) → whole.names ≡ part_names (shape_of f layout) part f (origins_for (shape_of f layout) part f) → IsUnusedIn (pruned whole) → KnowsItsLocals l (pruned whole)
ramp_known m k l layout part begin f whole split blocks names unused =
    knows_locals whole (part_tabled (shape_of f layout) part f (ok m k f begin split layout part) whole blocks names) (part_own (shape_of f layout) part f (ok m k f begin split layout part) whole blocks names) l unused

pub locals_known : (m : Module) (k l : ℕ) (layout : Layout) (part : Part) (begin : ℕ) (f g : Function) → IsSplittable m k f begin → IsPartOf (shape_of f layout) f part g → KnowsItsLocals l g
locals_known m k l layout _ begin f _ split IsRamp = ramp_known m k l layout Part.Ramp begin f (ramp_of (shape_of f layout) f) split refl refl (own_unused m k f begin split layout)
locals_known m k l layout _ begin f _ split IsGivenRamp = ramp_known m k l layout Part.GivenRamp begin f (given_ramp_of (shape_of f layout) f) split refl refl (given_unused m k f begin split layout)
locals_known m k l layout _ begin f _ split IsResume = part_that_goes_on_known m k f begin split layout (shape_of f layout).resume_name Part.Resume refl l
locals_known m k l layout _ begin f _ split IsDestroy = part_that_goes_on_known m k f begin split layout (shape_of f layout).destroy_name Part.Destroy refl l
locals_known m k l layout _ begin f _ split IsCleanup = part_that_goes_on_known m k f begin split layout (shape_of f layout).cleanup_name Part.Cleanup refl l

-- ---- names

some_block : (bs : List Block) (c : Block) → IsListed c bs → (b : Block) × ((rest : List Block) × (bs ≡ b ∷ rest))
some_block [] c l = absurd l
some_block (b ∷ bs) c l = (b, (bs, refl))

module _ (m : Module) (k : ℕ) (f : Function) (begin : ℕ) (split : IsSplittable m k f begin) (layout : Layout) (name : Name) (part : Part) (later : goes_on part ≡ true) (l : ℕ) where
  first : (b : Block) × ((rest : List Block) × (f.blocks ≡ b ∷ rest))
  first = some_block f.blocks (ok m k f begin split layout part).end_there.block (ok m k f begin split layout part).end_there.listed

  stands : slice_get f.blocks 0 ≡ Some first.0
  stands = ap (λ (bs : List Block). slice_get bs 0) first.1.1

  part_that_goes_on_once : first_twice [] (locals_of l (pruned (later_part (shape_of f layout) part name f))) ≡ None
  part_that_goes_on_once =
      let shape : Shape = shape_of f layout in
      later_once m k f begin split layout part later name (ok m k f begin split layout part) (frames m k f begin split layout part) (no_marks m k f begin split layout part) first.0 first.1.0 first.1.1
      (first_unled m k f begin split layout part first.0 stands) refl
      (ap (λ (bs : List Block). (bs ++ pieces_of shape part (origins_for shape part f) (first_name shape) f.blocks) ++ done_block shape ∷ []) (head_is m k f begin split layout name part later)
      ∙ ap (λ (bs : List Block). (later_head shape (reached f) part f.blocks ++ pieces_of shape part (origins_for shape part f) (first_name shape) bs) ++ done_block shape ∷ []) first.1.1) l

pub locals_once : (m : Module) (k l : ℕ) (layout : Layout) (part : Part) (begin : ℕ) (f g : Function) → IsSplittable m k f begin → IsPartOf (shape_of f layout) f part g → first_twice [] (locals_of l g) ≡ None
locals_once m k l layout _ begin f _ split IsRamp =
    ramp_once m k f begin split layout Part.Ramp refl f.name f.params (λ v other. refl) (none_given m k f begin split layout) l
locals_once m k l layout _ begin f _ split IsGivenRamp =
    ramp_once m k f begin split layout Part.GivenRamp refl (noalloc_of f.name) (given_params (shape_of f layout) f) (others_same (shape_of f layout) f) (address_once m k f begin split layout) l
locals_once m k l layout _ begin f _ split IsResume = part_that_goes_on_once m k f begin split layout (shape_of f layout).resume_name Part.Resume refl l
locals_once m k l layout _ begin f _ split IsDestroy = part_that_goes_on_once m k f begin split layout (shape_of f layout).destroy_name Part.Destroy refl l
locals_once m k l layout _ begin f _ split IsCleanup = part_that_goes_on_once m k f begin split layout (shape_of f layout).cleanup_name Part.Cleanup refl l
