use Rattle.compiler.proofs.whole.cleaned_sources.Sources.{cleaned_agrees}
use Rattle.compiler.proofs.whole.cleaned_sources.cleaned_sources_keep_meaning.Goals as goal

pub returns : goal.returns
returns c = cleaned_agrees
