use Rattle.std.proofs.Common.{◌≡◌, ◌∙◌, ap, subst, ℕ, List, Option, IfOk, unwrap_or}
use Rattle.frame_layout.specs.declared.layout.Layout.{Layout}
use Rattle.ir_base.specs.declared.name.Name.{Name}
use Rattle.ir_model.specs.Calls.{first_result}
use Rattle.ir_model.specs.declared.instr.Instr.{Instr}
use Rattle.ir_model.specs.declared.operand.Intrinsic.{Intrinsic}
use Rattle.pass_elide.specs.Elided.{elided_function}
use Rattle.pass_elide.specs.Frames.{callee_fields, field_frame, layout_of}
use Rattle.pass_elide.specs.declared.fields.CalleeField.{CalleeField}
use Rattle.pass_elide.specs.declared.given.GivenFrame.{GivenFrame}
use Rattle.pass_elide.proofs.pass.elided_coroutine.Goals as goal

abbrev found : ℕ → List CalleeField → List Name → ℕ → ℕ → Instr → Option GivenFrame
found begin fields names block at = field_frame begin fields names

pub returns : goal.returns
returns c =
    let f = c.args.function.now in
    let frames = c.in_ok-frames.frames in
    let value : ℕ = unwrap_or (first_result Intrinsic.CoroBegin f) 0 in
    let kept : List CalleeField = callee_fields (layout_of c.args.tables.now.layouts.now c.args.func) in
    let begin = c.in_ok-frames.ensures.begin ∙ c.unwrap_or-begin.ensures ∙ ap (λ (o : Option ℕ). unwrap_or o 0) c.first_result.ensures in
    let fields = c.in_ok-frames.ensures.fields ∙ ap (λ (o : Option Layout). callee_fields o) c.layout.ensures in
    subst (λ (frame : ℕ → ℕ → Instr → Option GivenFrame). IfOk c.elided_function.result (λ g. g ≡ elided_function frame f))
    (ap (λ (b : ℕ). found b frames.fields frames.names.now) begin
    ∙ ap (λ (ys : List CalleeField). found value ys frames.names.now) fields
    ∙ ap (λ (ns : List Name). found value kept ns) c.in_ok-frames.ensures.names)
    c.elided_function.ensures
