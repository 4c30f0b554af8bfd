use Rattle.std.proofs.Common.{◌∙◌, ap, sym, Bool, ◌++◌, ◌∷◌, []}
use Rattle.std.specs.Prelude.{if◌then◌else◌}
use Rattle.run_memory.specs.Memory.{access_bytes, encode, fresh}
use Rattle.run_memory.specs.declared.block.Kind.{Kind}
use Rattle.run_memory.specs.declared.pointer.Access.{Access}
use Rattle.run_memory.specs.declared.pointer.Value.{Value}
use Rattle.run_step.specs.Effects.{made_block}
use Rattle.run_step.specs.Values.{access_of, operand_value, stored}
use Rattle.run_step.specs.Step.{is_alignment}
use Rattle.run_step_code.proofs.Globals.{constant-made}
use Rattle.run_step_code.proofs.start.add_global.Goals as goal

pub returns-then-global : goal.returns-then-global
returns-then-global c =
    let m = c.args.memory.now in
    let what = c.access_of-what.result in
    let align = c.global_align.result in
    let value = c.to_stored-value.result in
    let ty = c.args.global.now.ty in
    let aligned = if is_alignment c.args.global.now.align then c.args.global.now.align else 1 in
    let init = stored (access_of ty) (operand_value c.args.program.now.module [] ty c.args.global.now.init) in
    let made = c.in_ok-block.ensures.made ∙ ap (λ k. fresh m k align Kind.Global) c.bytes-size.ensures in
    let filled = c.fill.ensures m align made c.in_ok-block.ensures.position c.global_align.ensures.least in
    constant-made m c.fill.new.memory c.seal.new.self c.in_ok-block.block (access_bytes what) align (encode (access_bytes what) value) c.in_ok-block.ensures.position filled c.seal.ensures
    ∙ ap (λ (x : Access). m ++ made_block (access_bytes x) align Kind.Constant (encode (access_bytes x) value) ∷ []) c.access_of-what.ensures.access
    ∙ ap (λ (v : Value). m ++ made_block (access_bytes (access_of ty)) align Kind.Constant (encode (access_bytes (access_of ty)) v) ∷ []) (c.to_stored-value.ensures ∙ ap (λ (v : Value). stored (access_of ty) v) c.initial_value.ensures)
    ∙ ap (λ a. m ++ made_block (access_bytes (access_of ty)) a Kind.Constant (encode (access_bytes (access_of ty)) init) ∷ []) c.global_align.ensures.align
    ∙ ap (λ (b : Bool). m ++ made_block (access_bytes (access_of ty)) aligned (if b then Kind.Constant else Kind.Global) (encode (access_bytes (access_of ty)) init) ∷ []) (sym c.if-global.true)
