-- Points and places: a place counts the phis of its block, a point doesn't.
use Rattle.std.specs.Prelude.{ℕ, Bool, true, false, List, [], length, slice_get, Some, None, Option, ◌+◌, ◌-◌, ◌∷◌, ◌++◌}
use Rattle.ir_base.specs.declared.outcome.Place.{Place}
use Rattle.ir_parts.specs.Parts.{instr_place}
use Rattle.ir_parts.specs.ir_model.declared.module.Block.{Block}
use Rattle.ir_parts.specs.ir_model.declared.module.Function.{Function}
use Rattle.ir_parts.specs.ir_model.declared.operand.Intrinsic.{Intrinsic}
use Rattle.flow_points.specs.ir_paths.Windows.{is_call_of, points_where}
use Rattle.flow_points.specs.ir_paths.declared.point.Point.{Point}

abbrev pub phis_in : Option Block → ℕ
phis_in None = 0
phis_in (Some b) = length b.phis

-- how many phis a block has
abbrev pub phi_count : Function → ℕ → ℕ
phi_count f block = phis_in (slice_get f.blocks block)

-- the place of a point
abbrev pub place_of : ℕ → Function → Point → Place
place_of func f p = instr_place func p.block (phi_count f p.block + p.at)

-- the first point of a function
abbrev pub entry : Point
entry = record { block = 0; at = 0 }

abbrev pub point_in : Function → Option ℕ → Option ℕ → Point
point_in f (Some block) (Some at) = record { block = block; at = at - phi_count f block }
point_in f _ _ = entry

-- the point of an instruction's place
abbrev pub point_of : Function → Place → Point
point_of f p = point_in f p.block p.instr

abbrev pub begins : Function → List Point
begins f = points_where (is_call_of Intrinsic.CoroBegin) f

abbrev pub ends : Function → List Point
ends f = points_where (is_call_of Intrinsic.CoroEnd) f

abbrev pub pushed_if : Bool → List Point → Point → List Point
pushed_if true all p = all ++ p ∷ []
pushed_if false all p = all
