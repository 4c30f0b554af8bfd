use Rattle.std.proofs.Common.{◌≡◌, ◌≢◌, ◌∙◌, ap, false, map, string_bytes, true}
use Rattle.clap.specs.Words.{kind_of}
use Rattle.clap.specs.contracts.error.kind.ErrorKind.{the_type}
use Rattle.clap.specs.declared.error.kind.ErrorKind.{ErrorKind}
use Rattle.cli_words.proofs.Refusals.{applied}
use Rattle.cli_words.proofs.taken.take_words.Goals as goal
use Rattle.cli_words.specs.Told.{Tells}
use denote.Enum.Bare.{sameb}

pub returns : goal.returns
returns c =
    let other : kind_of c.in-Err.error ≢ ErrorKind.OutOfMemory = λ is.
    (let same : false ≡ true
    = c.if-eq.ensures ∙ ap (λ (k : ErrorKind). sameb the_type k ErrorKind.OutOfMemory) (c.kind.ensures ∙ is) in
    absurd (cc)) in
    applied (λ t. Tells t (map string_bytes c.args.words.now)) c.told-in-Err.result c.told-in-Err.ensures
    (c.in-Err.ensures.refused other) (c.in-Err.ensures.helps other)
