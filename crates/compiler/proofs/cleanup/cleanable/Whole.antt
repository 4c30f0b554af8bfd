-- A module whose coroutines may be split is as the last pass asks, once it is split.
use Rattle.std.proofs.Common.{◌≡◌, ℕ, zero, suc, Bool, true, false, [], ◌∷◌, refl, ap, subst}
use Rattle.std.specs.Prelude.{None, Option, Some, is_some, slice_get, if◌then◌else◌, ◌||◌}
use Rattle.ir_base.specs.declared.name.Name.{Name}
use Rattle.pass_cleanup.specs.Cleanable.{IsCleanable, IsCleanableFunction, IsDefined}
use Rattle.pass_split.specs.Given.{has_given_call}
use Rattle.pass_split.specs.Parts.{marked_parts, plain_of, plain_shape, split_module}
use Rattle.pass_proofs.proofs.ir_laws.facts.Truth.{and_second, holds}
use Rattle.frame_layout.specs.declared.layout.Layout.{Layout}
use Rattle.frame_layout.specs.declared.layout.Layouts.{Layouts}
use Rattle.pass_proofs.proofs.split.names.Parts.{has_given_parts, has_parts}
use Rattle.pass_proofs.specs.split.names.Sources.{HasGivenParts}
use Rattle.pass_proofs.specs.rule_laws.frames.same_names.Parts.{HasPart, HasPartsOf}
use Rattle.pass_proofs.specs.ir_parts.Parts.{first_part, parts_of}
use Rattle.pass_proofs.specs.pass_intrinsics.Shapes.{shape_of}
use Rattle.pass_proofs.specs.pass_intrinsics.declared.shape.Shape.{Shape}
use Rattle.ir_model.specs.Names.{function_named, global_named}
use Rattle.ir_model.specs.Ty.{Ty}
use Rattle.ir_model.specs.declared.module.Function.{Function}
use Rattle.ir_model.specs.declared.module.GlobalItem.{GlobalItem}
use Rattle.ir_model.specs.declared.module.Module.{Module}
use Rattle.ir_model.specs.declared.operand.Operand.{Operand}
use Rattle.pass_proofs.proofs.ir_paths.Search.{or_right}
use Rattle.pass_proofs.specs.rule_locals.Intrinsics.{misplaces}
use Rattle.compiler.proofs.cleanup.cleanable.Defined.{function_cleanable, function_there, is_there}
use Rattle.compiler.proofs.cleanup.accepted.Row.{some_part}
use Rattle.pass_proofs.proofs.split.exited.Whence.{ComesBy, comes_by}
use Rattle.compiler.proofs.cleanup.outside.Outside.{parts_pass, turned_passes}
use Rattle.compiler.proofs.cleanup.accepted.Ramps.{functions_stay, has_given_ramps}
use Rattle.compiler.specs.cleanup.accepted.Ramps.{with_given_ramps}
use Rattle.compiler.specs.cleanup.accepted.Ready.{IsCoroutineReady, IsPlainReady, IsReady, IsReadyIn}
use Rattle.pass_proofs.specs.rule_names.declared.stage.Stage.{Stage}
use Rattle.pass_proofs.specs.rule_values.Initials.{fits_initial}
use Rattle.pass_proofs.specs.rule_types.Wants.{is_ptr}
use Rattle.pass_proofs.specs.pass_exits.ExitBlocks.{with_exit_blocks}
use Rattle.pass_proofs.proofs.ir_laws.facts.Members.{each_by as each_standing}

-- ---- globals

-- The rules of functions are judged in a module whose parts the split module has.
module _ (stage : Stage) (ls : Layouts) (m r : Module) (parts : HasPartsOf r (split_module ls m))
    (stay : (k : ℕ) (f : Function) → slice_get m.functions k ≡ Some f → slice_get r.functions k ≡ Some f)
    (ready : IsReadyIn stage r ls m) where
  abbrev n : Module
  n = split_module ls m

  -- an initial value is no function's address (Y1), and the split module has the same globals
  global_defined : (t : Ty) (x : Operand) → fits_initial m t x ≡ true → IsDefined n x
  global_defined t (Operand.Global y) e = or_right (is_some (function_named n y)) (is_some (global_named n y)) (and_second (is_ptr t) (is_some (global_named m y)) e)
  global_defined t _ e = tt

  -- ---- functions

  given_parts : HasGivenParts m n
  given_parts = has_given_parts ls m ready.items ready.short

  part_there : (x : Name) → HasPart n x → is_there n x ≡ true
  part_there x h = ap (λ (o : Option ℕ). is_some o || is_some (global_named n x)) h.signature.is_named

  coroutine_cleanable : (k : ℕ) (f g : Function) (layout : Layout) (number : ℕ) → slice_get m.functions k ≡ Some f
      → f.coroutine ≡ true → IsCoroutineReady r ls k f
      → slice_get (marked_parts layout (has_given_call m f) (with_exit_blocks f)) number ≡ Some g
      → IsCleanableFunction n g
  coroutine_cleanable k f g layout number stands c own e =
      let h : Function = with_exit_blocks f in
      let s : Shape = shape_of h layout in
      let p = some_part s (has_given_call m f) h g number e in
      let there = stay k f stands in
      function_cleanable n 0 g
      (parts_pass (is_there n) s p.part k 0 h g (
        part_there s.resume_name (parts.resumes k f there c),
        part_there s.destroy_name (parts.destroys k f there c),
        (λ d. part_there s.cleanup_name (given_parts.cleanups k f stands c (p.where_given d))),
      ) p.is
      (function_there r n parts.globals k h own.splittable.rules.local.function_pointers own.names))

  turned_cleanable : (k : ℕ) (f g : Function) (number : ℕ) → f.coroutine ≡ false → IsPlainReady stage r k f
      → slice_get (plain_of (plain_shape f) f ∷ []) number ≡ Some g → IsCleanableFunction n g
  turned_cleanable k f g zero c own e =
      let same : plain_of (plain_shape f) f ≡ g = cc in
      let misplaced : first_part (misplaces Stage.Source false) (parts_of k f) ≡ None =
      subst (λ (b : Bool). first_part (misplaces Stage.Source b) (parts_of k f) ≡ None) c own.rules.local.misplaced in
      subst (IsCleanableFunction n) same
      (function_cleanable n 0 (plain_of (plain_shape f) f)
      (turned_passes (is_there n) k 0 f misplaced
      (function_there r n parts.globals k f own.rules.local.function_pointers own.names)))
  turned_cleanable k f g (suc number) c own e = absurd (cc)

  functions_cleanable : (l : ℕ) (g : Function) → slice_get n.functions l ≡ Some g → IsCleanableFunction n g
  functions_cleanable l g there = on whence.source.coroutine refl whence.is_one
    where
      whence : ComesBy ls.coroutines m m.functions g
      whence = comes_by ls.coroutines m m.functions l g there

      on : (b : Bool) → whence.source.coroutine ≡ b
          → slice_get (if b then marked_parts whence.layout (has_given_call m whence.source) (with_exit_blocks whence.source)
          else plain_of (plain_shape whence.source) whence.source ∷ []) whence.number ≡ Some g → IsCleanableFunction n g
      on true c e =
          coroutine_cleanable whence.position whence.source g whence.layout whence.number whence.stands c
          (ready.coroutines whence.position whence.source whence.stands c) e
      on false c e =
          turned_cleanable whence.position whence.source g whence.number c
          (ready.plain whence.position whence.source whence.stands c) e

  pub split_cleanable_in : IsCleanable (split_module ls m)
  split_cleanable_in =
      record {
        globals = each_standing (λ (g : GlobalItem). IsDefined n g.init) m.globals
            (λ k g there. global_defined g.ty g.init
            (holds (fits_initial m g.ty g.init) (ready.items.initials.globals k g there)));
        functions = each_standing (IsCleanableFunction n) n.functions functions_cleanable;
      }

-- ---- where no call gives a frame, and with the ramps that are given frames

pub split_cleanable : (ls : Layouts) (m : Module) → IsReady ls m → IsCleanable (split_module ls m)
split_cleanable ls m ready = split_cleanable_in Stage.Source ls m m (has_parts ls m ready.items ready.short) (λ k f e. e) ready

pub given_cleanable : (stage : Stage) (ls : Layouts) (m : Module) → IsReadyIn stage (with_given_ramps m) ls m
    → IsCleanable (split_module ls m)
given_cleanable stage ls m ready =
    split_cleanable_in stage ls m (with_given_ramps m) (has_given_ramps ls m ready.items ready.short) (functions_stay m)
    ready
