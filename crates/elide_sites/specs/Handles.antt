-- The five ways in which the handle of a site may be used.
use Rattle.std.specs.Prelude.{ℕ, Bool, true, false, List, [], count_by, Some, None, Option, ◌∷◌, ◌==◌, if◌then◌else◌}
use Rattle.ir_calls.specs.Calls.{is_null}
use Rattle.rule_shape.specs.Uses.{uses_of}
use Rattle.elide_shape.specs.Frames.{all_from}
use Rattle.ir_model.specs.Names.{is_local}
use Rattle.ir_model.specs.declared.instr.Instr.{Instr}
use Rattle.ir_model.specs.declared.module.Function.{Function}
use Rattle.ir_model.specs.declared.operand.Callee.{Callee}
use Rattle.ir_model.specs.declared.operand.Intrinsic.{Intrinsic}
use Rattle.ir_model.specs.declared.operand.Operand.{Operand}
use Rattle.ir_paths.specs.Windows.{operand_at}

abbrev pub takes_handle : Intrinsic → Bool
takes_handle Intrinsic.CoroResume = true
takes_handle Intrinsic.CoroDestroy = true
takes_handle Intrinsic.CoroDone = true
takes_handle Intrinsic.CoroPromise = true
takes_handle _ = false

-- what is compared with null: of null and itself nothing is
abbrev pub beside_null : Operand → Operand → List Operand
beside_null a b = if is_null b then a ∷ [] else if is_null a then b ∷ [] else []

-- what stands as the first operand of coro.resume, coro.destroy, coro.done or coro.promise, or in an `icmp` with null
abbrev pub handles : Instr → List Operand
handles (Instr.Icmp result pred ty a b) = beside_null a b
handles (Instr.Call result must_tail ty (Callee.Intrinsic i) args) = if takes_handle i then operand_at args 0 ∷ [] else []
handles _ = []

abbrev pub handles_of : Function → List Operand
handles_of f = all_from handles f.blocks

-- all uses of the value are of the five: as many as it has at all
abbrev pub is_handle : Function → Option ℕ → Bool
is_handle f None = true
is_handle f (Some v) = uses_of f v == count_by (is_local v) (handles_of f)
