-- A ramp makes what it uses.
use Rattle.std.proofs.Common.{◌≡◌, inl, ℕ, Bool, true, false, List, [], ◌∷◌, ◌++◌, refl, sym, ap, ◌∙◌, subst}
use Rattle.std.specs.Prelude.{Some, slice_get, if◌then◌else◌}
use Rattle.pass_fetch_proof.specs.ir_base.declared.name.Name.{Name}
use Rattle.pass_split.specs.Parts.{done_block, head_blocks, later_head, origins_for, ramp_part}
use Rattle.pass_split.specs.Reached.{entry_of, is_flagged, kept_block, kept_blocks, pruned, reached}
use Rattle.pass_fetch_proof.specs.rule_uses.Undefined.{Entry as EntryBlock, ReachesWithout, params_of}
use Rattle.pass_fetch_proof.specs.flow_solver.Paths.{IsListed}
use Rattle.pass_fetch_proof.specs.frame_layout.declared.layout.Layout.{Layout}
use Rattle.pass_split.specs.declared.origin.Origin.{Origin}
use Rattle.pass_fetch_proof.specs.pass_intrinsics.Cuts.{goes_on}
use Rattle.pass_fetch_proof.specs.pass_intrinsics.Shapes.{first_name, given_name, shape_of}
use Rattle.pass_fetch_proof.specs.pass_intrinsics.declared.shape.Part.{Part}
use Rattle.pass_fetch_proof.specs.pass_intrinsics.declared.shape.Shape.{Shape}
use Rattle.ir_model.specs.declared.instr.Instr.{Instr}
use Rattle.ir_model.specs.declared.module.Block.{Block}
use Rattle.ir_model.specs.declared.module.Function.{Function}
use Rattle.ir_model.specs.declared.module.Module.{Module}
use Rattle.ir_model.specs.declared.module.Param.{Param}
use Rattle.pass_exits_proof.proofs.split.edges.Targets.{part_tabled}
use Rattle.pass_exits_proof.proofs.split.uses.Assembled.{blocks_grouped, first_kept, ok, pieced}
use Rattle.pass_fetch_proof.proofs.rule_laws.rules.uses.Fine.{IsUnusedIn}
use Rattle.pass_exits_proof.proofs.split.uses.Groups.{groups}
use Rattle.pass_fetch_proof.proofs.ir_laws.paths.uses.Groups.{joined}
use Rattle.pass_fetch_proof.proofs.rule_laws.rules.uses.RampMade.{ramp_made}
use Rattle.pass_exits_proof.proofs.split.uses.Paths.{Comes, IsPieced, end_unused, phi_unused, unused}
use Rattle.pass_fetch_proof.proofs.rule_laws.rules.uses.Plain.{IsPlain}
use Rattle.pass_fetch_proof.proofs.rule_laws.frames.uses.Lowering.{ComesBy, OfBegin, OfGiven, OfOperand}
use Rattle.pass_fetch_proof.proofs.rule_laws.frames.uses.Quiet.{IsQuiet}
use Rattle.pass_fetch_proof.proofs.rule_laws.rules.uses.RampQuiet.{IsMade}
use Rattle.pass_fetch_proof.proofs.rule_laws.frames.uses.RampQuiet.{Without, ramp_quiet}
use Rattle.pass_exits_proof.proofs.split.uses.Rules.{begin_named, begin_plain}
use Rattle.pass_fetch_proof.proofs.ir_laws.facts.Numbers.{Source}
use Rattle.pass_exits_proof.proofs.split.uses.Walk.{AtFront, enter}
use Rattle.pass_exits_proof.proofs.split.rules.Reached.{led_is_flagged}
use Rattle.pass_exits_proof.specs.split.rules.Reached.{Entry}
use Rattle.pass_exits_proof.specs.split.rules.Splittable.{IsSplittable}

some_first : (bs : List Block) (c : Block) → IsListed c bs → (b : Block) × (slice_get bs 0 ≡ Some b)
some_first [] c l = absurd l
some_first (b ∷ bs) c l = (b, refl)

joined_first : (css : List (List Block)) (first : Block) (rest more : List Block) → slice_get css 0 ≡ Some (first ∷ rest) → (tail : List Block) × (([] ++ joined css) ++ more ≡ first ∷ tail)
joined_first [] first rest more e = absurd (cc)
joined_first (cs ∷ css) first rest more e = let same : cs ≡ first ∷ rest = cc in ((rest ++ joined css) ++ more, ap (λ (ds : List Block). (ds ++ joined css) ++ more) same)

module _ (m : Module) (k : ℕ) (f : Function) (begin : ℕ) (split : IsSplittable m k f begin) (layout : Layout) (part : Part) (first : goes_on part ≡ false) (name : Name) (params : List Param) (kept : (v : ℕ) → IsListed v (params_of f) → IsListed v (params_of (ramp_part (shape_of f layout) part name params f))) (given : part ≡ Part.GivenRamp → IsListed (given_name (shape_of f layout)) (params_of (ramp_part (shape_of f layout) part name params f))) where
  abbrev s : Shape
  s = shape_of f layout

  abbrev h : Function
  h = f

  abbrev origins : List Origin
  origins = origins_for (shape_of f layout) part f

  abbrev head : List Block
  head = head_blocks (shape_of f layout) part f

  abbrev css : List (List Block)
  css = groups (shape_of f layout) part (origins_for (shape_of f layout) part f) (first_name (shape_of f layout)) f.blocks

  abbrev whole : Function
  whole = ramp_part (shape_of f layout) part name params f

  made : IsMade f begin
  made = ramp_made f k split.rules.uses begin split.begun

  all : IsPieced f f (shape_of f layout) part (origins_for (shape_of f layout) part f) (head_blocks (shape_of f layout) part f) (groups (shape_of f layout) part (origins_for (shape_of f layout) part f) (first_name (shape_of f layout)) f.blocks) (ramp_part (shape_of f layout) part name params f)
  all = pieced m k f begin split layout part (ramp_part (shape_of f layout) part name params f) refl

  -- nothing stands in front of the pieces
  none_ahead : head_blocks s part f ≡ []
  none_ahead = ap (λ (b : Bool). if b then later_head s (reached f) part f.blocks else []) first

  module _ (v : ℕ) (no_param : IsListed v (params_of (pruned (ramp_part (shape_of f layout) part name params f))) → ⊥) where
    own_param : IsListed v (params_of f) → ⊥
    own_param l = no_param (kept v l)

    not_given : part ≡ Part.GivenRamp → v ≡ given_name s → ⊥
    not_given d e = no_param (subst (λ (u : ℕ). IsListed u (params_of (ramp_part s part name params f))) (sym e) (given d))

    comes : (i : Instr) → ComesBy f s part i v → IsPlain f v
    comes i (OfOperand p l) = p
    comes i (OfBegin e a) = subst (IsPlain f) (sym (e ∙ begin_named m k f begin split layout)) (begin_plain m k f begin split layout)
    comes i (OfGiven d e) = absurd (not_given d e)

    abbrev N : ℕ → ℕ → Block → List Instr → Type 0
    N = Without f f s part begin (begin_named m k f begin split layout) made v own_param not_given

    quiet : IsQuiet f f (shape_of f layout) part v (ReachesWithout f v) N
    quiet = ramp_quiet f h s part begin (begin_named m k f begin split layout) made v own_param not_given

    entry : (d : Block) → slice_get (pruned (ramp_part (shape_of f layout) part name params f)).blocks 0 ≡ Some d → Comes f f s part origins head css whole all v comes (ReachesWithout f v) N quiet d
    entry d there =
        let b0 = some_first h.blocks (ok m k f begin split layout part).end_there.block (ok m k f begin split layout part).end_there.listed in
        let x = all.cut.pieces 0 b0.0 b0.1 in
        let more = joined_first css x.first x.rest (done_block s ∷ []) x.there in
        let blocks : whole.blocks ≡ x.first ∷ more.0 =
        blocks_grouped m k f begin split layout part ∙ ap (λ (bs : List Block). (bs ++ joined css) ++ done_block s ∷ []) none_ahead ∙ more.1 in
        let flagged : is_flagged (reached whole) x.first.label ≡ true =
        led_is_flagged whole (part_tabled s part h (ok m k f begin split layout part) whole refl refl) x.first.label
        (Entry x.first.label (subst (λ (bs : List Block). IsListed x.first.label (entry_of bs)) (sym blocks) (inl refl))) in
        let kept_first : Some (kept_block (reached whole) x.first) ≡ Some d =
        sym (ap (λ (bs : List Block). slice_get (kept_blocks (reached whole) bs) 0) blocks ∙ first_kept (reached whole) x.first more.0 flagged) ∙ there in
        let same : kept_block (reached whole) x.first ≡ d = cc in
        record {
          source = Source.Of 0;
          block = x.first;
          in_part = (x.first ∷ x.rest, (x.there, inl refl));
          is = sym same;
          walked = enter f h s part origins head css all.cut v comes (ReachesWithout h v) N quiet (Source.Of 0) x.first
              (AtFront 0 b0.0 x.first x.rest x.new x.last b0.1 (λ c l. (x.first ∷ x.rest, (x.there, l))) x.pieces x.apart (λ p. EntryBlock));
        }

  -- nothing is used without its value
  pub ramp_unused : IsUnusedIn (pruned (ramp_part (shape_of f layout) part name params f))
  ramp_unused =
      record {
        instrs = λ v no_param. unused f h s part origins head css whole all v (comes v no_param) (ReachesWithout h v) (N v no_param) (quiet v no_param) (entry v no_param);
        term = λ v no_param. end_unused f h s part origins head css whole all v (comes v no_param) (ReachesWithout h v) (N v no_param) (quiet v no_param) (entry v no_param);
        phis = λ v no_param. phi_unused f h s part origins head css whole all v (comes v no_param) (ReachesWithout h v) (N v no_param) (quiet v no_param) (entry v no_param);
      }
