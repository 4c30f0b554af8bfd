use Rattle.std.proofs.Common.{◌≤◌, ◌-◌, length, take, ◌++◌, subst, ◌∙◌, arith}
use Rattle.cli_io.proofs.Writing.{prefix_then, parts_then, room_then, left_fits}
use Rattle.std.proofs.KnownBytes.{Appends-trans}
use Rattle.cli_io.proofs.whole.write_all.Goals as goal

pub returns-in-Err-clause-part : goal.returns-in-Err-clause-part
returns-in-Err-clause-part g c =
    let inv = c.loop-rest.invariant in
    prefix_then _ _ _ c.args.bytes.now inv.0 c.loop-rest.rest.now inv.1 inv.2 c.in-Err.ensures.appended

pub loop-rest-preserved : goal.loop-rest-preserved
loop-rest-preserved g c =
    let inv = c.loop-rest.invariant in
    let gone = inv.0 in
    let n = c.in-Ok.count in
    let rest = c.loop-rest.rest.now in
    let later : g.K.Sink.faults c.loop-rest.sink ≤ g.K.Sink.faults c.write.new.self = c.write.ensures.cause.later in (
      gone ++ take n rest,
      parts_then c.args.bytes.now gone rest c.split_at.result.1.now n inv.1 c.split_at.ensures.back,
      Appends-trans _ _ _ gone (take n rest) inv.2 c.in-Ok.ensures.appended,
      omega (arith, inv.3),
      λ room sure fits.
          let before = inv.4 room sure fits in
          let now = c.in-Ok.ensures.sure (room - length gone) before.0 (left_fits room c.args.bytes.now gone rest inv.1 fits) in
          (subst (g.K.Sink.IsSureFor c.write.new.self) (room_then room n gone rest c.in-Ok.ensures.bound) now.ok, now.same ∙ before.1),
    )
