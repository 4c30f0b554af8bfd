use Rattle.frame_contents.proofs.Underway.{IsUnderway}
use Rattle.frame_contents.proofs.module_frames.all_layouts.Given as goal

abbrev pub invariant-loop-func : goal.invariant-loop-func
invariant-loop-func l = IsUnderway l.sizes.names.now.source.now l.share l.functions l.func l.coroutines
