use Rattle.std.proofs.Common.{◌≡◌, ◌∙◌, ap, sym, Option, ℕ}
use Rattle.std.specs.Prelude.{option_and_then, slice_get, IfSome}
use Rattle.run_memory.specs.declared.pointer.Pointer.{Pointer}
use Rattle.run_memory.specs.declared.pointer.Value.{Value}
use Rattle.run_source.proofs.Freeing.{began-there, freed-by-own, found-is, own-done, own-refused}
use Rattle.run_source.proofs.ending.free_in.Goals as goal

pub returns-then-may_be_freed-clause-done : goal.returns-then-may_be_freed-clause-done
returns-then-may_be_freed-clause-done c =
    let s = c.args.state.now in
    let x = c.in-Some-get.instance.now in
    let i = c.in-Some.i in
    let b = c.args.block in
    let o = c.args.offset in
    let p = Value.Ptr (Pointer.At b o) in
    own-done s c.free_frame.new.state p i x c.free_frame.result
    (freed-by-own s p i x (found-is s b o i x (sym c.in-Some.ensures.number) c.in-Some-get.ensures) (sym c.may_be_freed.ensures ∙ c.if-may_be_freed.true))
    (c.free_frame.ensures.done x c.in-Some-get.ensures (began-there b o.bits x (c.in-Some.ensures.there x c.in-Some-get.ensures)))

pub returns-then-may_be_freed-clause-refused : goal.returns-then-may_be_freed-clause-refused
returns-then-may_be_freed-clause-refused c =
    let s = c.args.state.now in
    let x = c.in-Some-get.instance.now in
    let i = c.in-Some.i in
    let b = c.args.block in
    let o = c.args.offset in
    let p = Value.Ptr (Pointer.At b o) in
    own-refused s p i x c.free_frame.result
    (freed-by-own s p i x (found-is s b o i x (sym c.in-Some.ensures.number) c.in-Some-get.ensures) (sym c.may_be_freed.ensures ∙ c.if-may_be_freed.true))
    (c.free_frame.ensures.refused x c.in-Some-get.ensures (began-there b o.bits x (c.in-Some.ensures.there x c.in-Some-get.ensures)))
