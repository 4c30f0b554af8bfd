-- The row of splitting and cleaning: no part breaks a rule, nor does a function that is no coroutine, and the last pass leaves it so.
use Rattle.std.proofs.Common.{◌≡◌, ℕ, zero, suc, Bool, true, false, [], ◌∷◌, refl, subst}
use Rattle.std.specs.List.{list_all}
use Rattle.std.specs.Prelude.{None, Some, not, slice_get, if◌then◌else◌}
use Rattle.compiler.proofs.cleanup.cleanable_names.Tokens.{nothing_gone}
use Rattle.compiler.proofs.cleanup.rules.All.{all_clean}
use Rattle.compiler.proofs.cleanup.rules.Items.{items_clean}
use Rattle.compiler.proofs.cleanup.rules.NoCoroutine.{none_left}
use Rattle.compiler.specs.cleanup.rules.Clean.{NameNothingGone}
use Rattle.pass_cleanup.specs.Cleanup.{clean_module}
use Rattle.pass_cleanup.specs.Free.{calls_id_alone}
use Rattle.pass_split.specs.Given.{has_given_call}
use Rattle.pass_split.specs.Parts.{given_ramp_of, later_part, marked_parts, parts_of, plain_of, plain_shape, ramp_of, split_module}
use Rattle.pass_split.specs.Reached.{pruned}
use Rattle.frame_layout.specs.declared.layout.Layout.{Layout}
use Rattle.frame_layout.specs.declared.layout.Layouts.{Layouts}
use Rattle.pass_proofs.specs.pass_intrinsics.Shapes.{shape_of}
use Rattle.pass_proofs.specs.pass_intrinsics.declared.shape.Part.{Part}
use Rattle.pass_proofs.specs.pass_intrinsics.declared.shape.Shape.{Shape}
use Rattle.pass_proofs.specs.rule_all.Refused.{IsRefused}
use Rattle.ir_model.specs.declared.module.Function.{Function}
use Rattle.ir_model.specs.declared.module.Module.{Module}
use Rattle.pass_proofs.proofs.exits.exited.Exited.{coroutine_stands, exited_module, parts_exited}
use Rattle.pass_proofs.proofs.split.exited.Exited.{splittable_exited}
use Rattle.pass_proofs.proofs.split.exited.Whence.{ComesBy, comes_by}
use Rattle.compiler.proofs.cleanup.accepted.Ramps.{functions_stay, has_given_ramps}
use Rattle.compiler.specs.cleanup.accepted.Ramps.{with_given_ramps}
use Rattle.compiler.specs.cleanup.accepted.Ready.{IsCoroutineReady, IsPlainReady, IsReady, IsReadyIn}
use Rattle.pass_proofs.specs.rule_names.declared.stage.Stage.{Stage}
use Rattle.pass_proofs.proofs.split.edges.Kept.{part_edges_kept}
use Rattle.pass_proofs.proofs.split.edges.Late.{part_allocas_kept}
use Rattle.pass_proofs.proofs.split.edges.Marks.{part_marks_kept}
use Rattle.pass_proofs.proofs.split.edges.Returns.{later_parts_return_nothing}
use Rattle.pass_proofs.proofs.split.uses.Laws.{locals_known, locals_once, uses_made}
use Rattle.pass_proofs.proofs.split.plain_functions.Whole.{turned_keeps}
use Rattle.pass_proofs.proofs.rule_laws.rules.plain_rules.Accepted.{accepted}
use Rattle.pass_proofs.specs.rule_laws.rules.plain_rules.Kept.{AllKeepPlainRules, KeepsPlainRules}
use Rattle.pass_proofs.proofs.split.names.Items.{split_keeps_items}
use Rattle.pass_proofs.proofs.split.names.Parts.{has_given_parts, has_parts}
use Rattle.pass_proofs.specs.split.names.Sources.{HasGivenParts}
use Rattle.pass_proofs.specs.rule_laws.frames.same_names.Parts.{HasPart, HasPartsOf}
use Rattle.pass_proofs.proofs.split.rules.Instructions.{parts_kept}
use Rattle.pass_proofs.proofs.split.rules.Laws.{parts_named}
use Rattle.pass_proofs.specs.split.rules.Parted.{IsCleanup, IsDestroy, IsGivenRamp, IsPartOf, IsRamp, IsResume}
use Rattle.pass_proofs.specs.rule_laws.frames.replaced.Parted.{IsSmall}
use Rattle.pass_proofs.specs.split.rules.Splittable.{IsSplittable}
use Rattle.compiler.proofs.cleanup.unnamed_intrinsics.Parts.{parts_free, turned_free}
use Rattle.compiler.specs.cleanup.unnamed_intrinsics.Unnamed.{NamesNoIntrinsic}
use Rattle.pass_proofs.specs.pass_exits.ExitBlocks.{with_exit_blocks}

-- what a function of the split module keeps
record IsKept (n : Module) (l : ℕ) (g : Function) : Type 0 where
  pub rules : KeepsPlainRules n l g
  pub names : NamesNoIntrinsic l g

-- ---- a part of a coroutine

part_rules : (m n : Module) (k l : ℕ) (layout : Layout) (part : Part) (begin : ℕ) (f g : Function) → HasPartsOf m n → slice_get m.functions k ≡ Some f → IsSplittable m k f begin → IsSmall (shape_of f layout) → IsPartOf (shape_of f layout) f part g
    → (part ≡ Part.GivenRamp → HasPart n (shape_of f layout).cleanup_name) → KeepsPlainRules n l g
part_rules m n k l layout part begin f g h stands s small is given =
    let kept = parts_kept m n k l layout part f g h stands s.coroutine s.rules is given in
    let named = parts_named m n k l layout part begin f g h stands s small is given (locals_known m k l layout part begin f g s is) (later_parts_return_nothing m k l layout part begin f g s is) in
    record {
      definitions = locals_once m k l layout part begin f g s is;
      known = named.0;
      depths = kept.depths;
      calls = kept.calls;
      values = named.1;
      closed_calls = kept.closed_calls;
      extents = kept.extents;
      transfers = kept.transfers;
      edges = part_edges_kept m k l layout part begin f g s is;
      uses = uses_made m k l layout part begin f g s is;
      allocas = part_allocas_kept m k l layout part begin f g s is;
      marks = part_marks_kept m n k l layout part begin f g h s is;
    }

-- which part a function among a coroutine's parts is; the ramp that is given its frame is one only where some call gives it
pub record IsSomePart (s : Shape) (given : Bool) (f g : Function) : Type 0 where
  pub part : Part
  pub is : IsPartOf s f part g
  pub where_given : part ≡ Part.GivenRamp → given ≡ true

pub some_part : (s : Shape) (given : Bool) (f g : Function) (number : ℕ) → slice_get (parts_of s given f) number ≡ Some g → IsSomePart s given f g
some_part s given f g zero e = let same : pruned (ramp_of s f) ≡ g = cc in record { part = Part.Ramp; is = subst (IsPartOf s f Part.Ramp) same IsRamp; where_given = λ d. absurd (cc) }
some_part s given f g (suc zero) e = let same : pruned (later_part s Part.Resume s.resume_name f) ≡ g = cc in record { part = Part.Resume; is = subst (IsPartOf s f Part.Resume) same IsResume; where_given = λ d. absurd (cc) }
some_part s given f g (suc (suc zero)) e = let same : pruned (later_part s Part.Destroy s.destroy_name f) ≡ g = cc in record { part = Part.Destroy; is = subst (IsPartOf s f Part.Destroy) same IsDestroy; where_given = λ d. absurd (cc) }
some_part s false f g (suc (suc (suc k))) e = absurd (cc)
some_part s true f g (suc (suc (suc zero))) e = let same : pruned (later_part s Part.Cleanup s.cleanup_name f) ≡ g = cc in record { part = Part.Cleanup; is = subst (IsPartOf s f Part.Cleanup) same IsCleanup; where_given = λ d. absurd (cc) }
some_part s true f g (suc (suc (suc (suc zero)))) e = let same : pruned (given_ramp_of s f) ≡ g = cc in record { part = Part.GivenRamp; is = subst (IsPartOf s f Part.GivenRamp) same IsGivenRamp; where_given = λ d. refl }
some_part s true f g (suc (suc (suc (suc (suc k))))) e = absurd (cc)

-- The rules of functions are judged in a module in which those of the first stand, and whose parts the split module has.
module _ (stage : Stage) (ls : Layouts) (m r : Module) (parts : HasPartsOf r (split_module ls m))
    (stay : (k : ℕ) (f : Function) → slice_get m.functions k ≡ Some f → slice_get r.functions k ≡ Some f)
    (ready : IsReadyIn stage r ls m) where
  abbrev n : Module
  n = split_module ls m

  given_parts : HasGivenParts m n
  given_parts = has_given_parts ls m ready.items ready.short

  part_kept : (k l : ℕ) (f g : Function) (layout : Layout) (number : ℕ) → slice_get m.functions k ≡ Some f
      → f.coroutine ≡ true → IsSmall (shape_of (with_exit_blocks f) layout) → IsCoroutineReady r ls k f
      → slice_get (marked_parts layout (has_given_call m f) (with_exit_blocks f)) number ≡ Some g → IsKept n l g
  part_kept k l f g layout number stands c small own e =
      let h : Function = with_exit_blocks f in
      let p = some_part (shape_of h layout) (has_given_call m f) h g number e in
      let there : slice_get (exited_module r).functions k ≡ Some h = coroutine_stands r k f (stay k f stands) c in
      let s : IsSplittable (exited_module r) k h own.begin = splittable_exited r k h own.begin own.splittable in
      record {
        rules = part_rules (exited_module r) n k l layout p.part own.begin h g (parts_exited r n parts) there s small
            p.is (λ d. given_parts.cleanups k f stands c (p.where_given d));
        names = parts_free (exited_module r) n k l layout p.part h g (parts_exited r n parts) there s.coroutine p.is
            (λ d. given_parts.cleanups k f stands c (p.where_given d)) own.names;
      }

  plain_kept : (k l : ℕ) (f g : Function) (number : ℕ) → slice_get m.functions k ≡ Some f → f.coroutine ≡ false
      → IsPlainReady stage r k f → slice_get (plain_of (plain_shape f) f ∷ []) number ≡ Some g → IsKept n l g
  plain_kept k l f g zero stands c own e =
      let same : plain_of (plain_shape f) f ≡ g = cc in
      subst (IsKept n l) same (record {
        rules = turned_keeps stage r n k l f parts (stay k f stands) c own.rules;
        names = turned_free stage r k l f c own.rules own.names;
      })
  plain_kept k l f g (suc number) stands c own e = absurd (cc)

  function_kept : (l : ℕ) (g : Function) → slice_get n.functions l ≡ Some g → IsKept n l g
  function_kept l g there = on whence.source.coroutine refl whence.is_one
    where
      whence : ComesBy ls.coroutines m m.functions g
      whence = comes_by ls.coroutines m m.functions l g there

      on : (b : Bool) → whence.source.coroutine ≡ b
          → slice_get (if b then marked_parts whence.layout (has_given_call m whence.source) (with_exit_blocks whence.source)
          else plain_of (plain_shape whence.source) whence.source ∷ []) whence.number ≡ Some g → IsKept n l g
      on true c e =
          let own = ready.coroutines whence.position whence.source whence.stands c in
          part_kept whence.position l whence.source g whence.layout whence.number whence.stands c
          (own.small whence.layout whence.given) own e
      on false c e =
          plain_kept whence.position l whence.source g whence.number whence.stands c
          (ready.plain whence.position whence.source whence.stands c) e

  pub all_kept_in : AllKeepPlainRules (split_module ls m)
  all_kept_in l g there = (function_kept l g there).rules

  nothing : calls_id_alone n ≡ true → NameNothingGone n
  nothing alone l g there = let h = function_kept l g there in nothing_gone n l g there alone h.rules h.names

  pub split_accepted_in : list_all (λ f. not f.coroutine) (split_module ls m).functions ≡ true
      → calls_id_alone (split_module ls m) ≡ true → IsRefused Stage.Plain (clean_module (split_module ls m)) None
  split_accepted_in ordinary alone =
      let gone = nothing alone in
      accepted (clean_module n) (items_clean n (split_keeps_items ls m ready.items ready.short))
      (all_clean n all_kept_in gone) (none_left n ordinary alone gone)

-- ---- where no call gives a frame, and with the ramps that are given frames

module _ (ls : Layouts) (m : Module) (ready : IsReady ls m) where
  parts_of_itself : HasPartsOf m (split_module ls m)
  parts_of_itself = has_parts ls m ready.items ready.short

  pub all_kept : AllKeepPlainRules (split_module ls m)
  all_kept = all_kept_in Stage.Source ls m m parts_of_itself (λ k f e. e) ready

  pub split_accepted : list_all (λ f. not f.coroutine) (split_module ls m).functions ≡ true
      → calls_id_alone (split_module ls m) ≡ true → IsRefused Stage.Plain (clean_module (split_module ls m)) None
  split_accepted = split_accepted_in Stage.Source ls m m parts_of_itself (λ k f e. e) ready

pub given_accepted : (stage : Stage) (ls : Layouts) (m : Module) → IsReadyIn stage (with_given_ramps m) ls m
    → list_all (λ f. not f.coroutine) (split_module ls m).functions ≡ true
    → calls_id_alone (split_module ls m) ≡ true → IsRefused Stage.Plain (clean_module (split_module ls m)) None
given_accepted stage ls m ready =
    split_accepted_in stage ls m (with_given_ramps m) (has_given_ramps ls m ready.items ready.short) (functions_stay m)
    ready
