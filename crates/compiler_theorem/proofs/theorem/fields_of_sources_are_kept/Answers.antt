use Rattle.compiler_theorem.proofs.theorem.fields_of_sources_are_kept.Goals as goal
use Rattle.compiler_theorem.proofs.theorem.shown.Bytes.{framed_bytes}
use Rattle.compiler_theorem.proofs.theorem.shown.Crossed.{fields_kept}
use Rattle.compiler_theorem.proofs.theorem.shown.Small.{small_offsets}

pub returns-clause-fields : goal.returns-clause-fields
returns-clause-fields c = fields_kept

pub returns-clause-offsets : goal.returns-clause-offsets
returns-clause-offsets c = small_offsets

pub returns-clause-bytes : goal.returns-clause-bytes
returns-clause-bytes c = framed_bytes
