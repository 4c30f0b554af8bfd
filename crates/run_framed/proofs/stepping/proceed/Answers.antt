use Rattle.std.proofs.Common.{◌∙◌, refl, [], None}
use Rattle.run_source.proofs.Acting.{fetch-term}
use Rattle.run_source.proofs.OfCalls.{of-term}
use Rattle.run_source.specs.State.{function_of, work_of}
use Rattle.run_framed.proofs.Acting.{next-done, next-refused, performed-done, performed-refused}
use Rattle.run_framed.proofs.stepping.proceed.Goals as goal
use Rattle.run_framed.specs.Framed.{framed_context, frame_rights}
use Rattle.run_framed.specs.FramedEffects.{framed_of}
use Rattle.run_step.specs.Step.{AtTerm, fetch, term_action}

pub returns-then-state-len-clause-done : goal.returns-then-state-len-clause-done
returns-then-state-len-clause-done c =
    let g = framed_of c.args.program.now in
    let s = c.args.state.now in
    let x = framed_context g s in
    let w = work_of s in
    let t = c.in-Some.block.now.term in
    let e = fetch-term c.args.function.now s.top.block s.top.at c.in-Some.block.now c.in-Some.ensures c.in-None-get.ensures (c.if-state-len.true ∙ c.len.ensures) in
    next-done g s c.act_framed.new.state (fetch c.args.function.now s.top.block s.top.at) (AtTerm t) c.act_framed.result e
    (performed-done g s [] None (term_action x w t) (term_action x w t) c.terminate-effect.result w c.act_framed.result c.act_framed.new.state refl (of-term x w t) c.terminate-effect.ensures.no_slot (c.terminate-effect.ensures.done (frame_rights g s.instances) (function_of g.given s) s.world) c.act_framed.ensures.done)

pub returns-then-state-len-clause-refused : goal.returns-then-state-len-clause-refused
returns-then-state-len-clause-refused c =
    let g = framed_of c.args.program.now in
    let s = c.args.state.now in
    let x = framed_context g s in
    let w = work_of s in
    let t = c.in-Some.block.now.term in
    let e = fetch-term c.args.function.now s.top.block s.top.at c.in-Some.block.now c.in-Some.ensures c.in-None-get.ensures (c.if-state-len.true ∙ c.len.ensures) in
    next-refused g s (fetch c.args.function.now s.top.block s.top.at) (AtTerm t) c.act_framed.result e
    (performed-refused g s [] None (term_action x w t) (term_action x w t) c.terminate-effect.result w c.act_framed.result refl (of-term x w t) c.terminate-effect.ensures.no_slot (c.terminate-effect.ensures.done (frame_rights g s.instances) (function_of g.given s) s.world) c.act_framed.ensures.refused)
