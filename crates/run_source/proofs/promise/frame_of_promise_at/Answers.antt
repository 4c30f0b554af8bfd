use Rattle.std.proofs.Common.{◌∙◌, ap, sym, List}
use Rattle.std.specs.Prelude.{find}
use Rattle.std.specs.Option.{option_copied}
use Rattle.run_source.specs.Source.{has_promise_at}
use Rattle.run_source.specs.SourceEffects.{given_of}
use Rattle.run_source.specs.declared.state.Instance.{Instance}
use Rattle.run_source.proofs.Promises.{promise-dead, promise-some}
use Rattle.run_source.proofs.promise.frame_of_promise_at.Goals as goal

pub returns-then-is_live_at : goal.returns-then-is_live_at
returns-then-is_live_at c =
    let g = given_of c.args.given.now in
    let b = c.args.block in
    let is = c.keeper_of.ensures ∙ ap (λ (l : List Instance). find (λ x. has_promise_at g b x) l) c.as_slice.ensures in
    promise-some g c.args.state.now b c.args.offset (option_copied c.keeper_of.result) c.in-Some.instance.now c.frame_address_of.result c.if-offset-ne0.false is (ap option_copied c.in-Some.is) (sym c.is_live_at.ensures ∙ c.if-is_live_at.true) c.frame_address_of.ensures

pub returns-else-is_live_at : goal.returns-else-is_live_at
returns-else-is_live_at c =
    let g = given_of c.args.given.now in
    let b = c.args.block in
    let is = c.keeper_of.ensures ∙ ap (λ (l : List Instance). find (λ x. has_promise_at g b x) l) c.as_slice.ensures in
    promise-dead g c.args.state.now b c.args.offset (option_copied c.keeper_of.result) c.in-Some.instance.now c.if-offset-ne0.false is (ap option_copied c.in-Some.is) (sym c.is_live_at.ensures ∙ c.if-is_live_at.false)
