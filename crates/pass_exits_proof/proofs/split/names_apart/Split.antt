-- The names of each function into which one is split are different.
use Rattle.std.proofs.Common.{◌≡◌, ℕ, ◌-◌, Bool, true, false, List, [], ◌∷◌, length, refl, arith}
use Rattle.std.specs.Prelude.{Some, slice_get, if◌then◌else◌}
use Rattle.pass_split.specs.Given.{has_given_call}
use Rattle.pass_split.specs.Parts.{first_layout, given_parts, layouts_after, marked_parts, names_of, origins_for, part_names, plain_of, plain_shape, split_function, split_functions}
use Rattle.pass_split.specs.Pieces.{next_after}
use Rattle.pass_fetch_proof.specs.frame_layout.declared.layout.Layout.{Layout}
use Rattle.pass_fetch_proof.specs.pass_intrinsics.Shapes.{first_name, shape_of}
use Rattle.pass_fetch_proof.specs.pass_intrinsics.declared.shape.Part.{Part}
use Rattle.pass_fetch_proof.specs.pass_intrinsics.declared.shape.Shape.{Shape}
use Rattle.ir_model.specs.declared.module.Function.{Function}
use Rattle.ir_model.specs.declared.module.Module.{Module}
use Rattle.pass_split.specs.pass_exits.ExitBlocks.{with_exit_blocks}
use Rattle.pass_split.specs.pass_exits.Exits.{exits_of}
use Rattle.pass_fetch_proof.proofs.ir_laws.facts.Members.{at_each, each_behind}
use Rattle.pass_fetch_proof.specs.run_laws.changed.Changed.{Each}
use Rattle.pass_exits_proof.proofs.split.names_apart.Steps.{part_apart, part_longer, plain_apart}
use Rattle.pass_fetch_proof.specs.ir_laws.facts.names_apart.Apart.{AreApart}
use Rattle.pass_fetch_proof.specs.rule_laws.rules.names_apart.Words.{AreFew, IsSplitTable, IsTableOf, framed_words}

-- the names of the function are different, where they are few
abbrev pub IsApart : Function → Type 0
IsApart f = AreFew f.names → AreApart f.names

part_of : (s : Shape) (g : Function) (count : ℕ) → (AreFew g.names → IsTableOf framed_words g.names) → AreFew (names_of s (with_exit_blocks g).names count) → AreApart (names_of s (with_exit_blocks g).names count)
part_of s g count h few =
    let longer = part_longer g.names (exits_of g) s.begin (length s.suspends) count in
    part_apart g.names (exits_of g) s.begin (length s.suspends) count (h (omega (arith, longer, few))) few

parts_apart : (l : Layout) (given : Bool) (g : Function) → (AreFew g.names → IsTableOf framed_words g.names) → Each IsApart (marked_parts l given (with_exit_blocks g))
parts_apart l given g h = (each Part.Ramp, (each Part.Resume, (each Part.Destroy, others given)))
  where
    s : Shape
    s = shape_of (with_exit_blocks g) l

    each : (part : Part) → AreFew (part_names (shape_of (with_exit_blocks g) l) part (with_exit_blocks g) (origins_for (shape_of (with_exit_blocks g) l) part (with_exit_blocks g))) → AreApart (part_names (shape_of (with_exit_blocks g) l) part (with_exit_blocks g) (origins_for (shape_of (with_exit_blocks g) l) part (with_exit_blocks g)))
    each part =
        let f : Function = with_exit_blocks g in
        part_of s g (next_after s part (origins_for s part f) (first_name s) f.blocks - first_name s) h

    others : (b : Bool) → Each IsApart (if b then given_parts s (with_exit_blocks g) else [])
    others true = (each Part.Cleanup, (each Part.GivenRamp, tt))
    others false = tt

plain_alone : (f : Function) → IsTableOf [] f.names → IsApart (plain_of (plain_shape f) f)
plain_alone f h few =
    let s : Shape = plain_shape f in
    plain_apart f.names (next_after s Part.Ramp [] s.base f.blocks - s.base) h few

split_apart : (l : Layout) (given : Bool) (f : Function) → IsSplitTable f → Each IsApart (split_function l given f)
split_apart l given f h = on f.coroutine refl
  where
    on : (b : Bool) → f.coroutine ≡ b → Each IsApart (if b then marked_parts l given (with_exit_blocks f) else plain_of (plain_shape f) f ∷ [])
    on true e = parts_apart l given f (h.coroutine e)
    on false e = (plain_alone f (h.other e), tt)

pub split_at : (l : Layout) (given : Bool) (f : Function) → IsSplitTable f → (k : ℕ) (p : Function) → slice_get (split_function l given f) k ≡ Some p → AreFew p.names → AreApart p.names
split_at l given f h k p there few = at_each IsApart (split_function l given f) k p (split_apart l given f h) there few

pub functions_apart : (ls : List Layout) (m : Module) (fs : List Function) → Each IsSplitTable fs → Each IsApart (split_functions ls m fs)
functions_apart ls m [] h = tt
functions_apart ls m (f ∷ fs) h =
    each_behind IsApart (split_function (first_layout ls) (has_given_call m f) f) (split_functions (layouts_after f ls) m fs) (split_apart (first_layout ls) (has_given_call m f) f h.0) (functions_apart (layouts_after f ls) m fs h.1)
