-- The runs between which frames are built: what they are given, and what is asked of them.
use Rattle.compiler_theorem.specs.theorem.Anew.{Anew}
use Rattle.compiler_theorem.specs.theorem.Entries.{Run}
use Rattle.compiler_theorem.specs.theorem.Lowered.{Lowered, edged, sizes_of}
use Rattle.pass_frames_meaning.specs.pass_renewed_meaning.Rules.{Setting}
use Rattle.pass_frames_meaning.specs.pass_renewed_proof.Renewed.{RenewedGiven, renewed_given}

-- what is asked of a run in which slots are made anew
abbrev pub setting : Lowered → Anew → Run → Setting
setting l a r = record {
  code = edged l;
  keep = a.keep;
  flags = a.flags;
  roots = a.roots;
  sizes = sizes_of l;
  entry = r.entry;
  args = r.args;
  answers = r.answers;
}

-- what frames are built for
abbrev pub renewing : Lowered → Anew → Run → RenewedGiven
renewing l a r = renewed_given (edged l) a.keep a.flags a.roots (sizes_of l) r.answers
