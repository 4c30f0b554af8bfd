use Rattle.pass_frames_proof.proofs.early.Placed.{all_early, cells_apart, temporaries_unplaced}
use Rattle.pass_frames_proof.proofs.early.Sizes.{all_sized}
use Rattle.pass_frames_proof.proofs.early.early_slots_lie_in_frames.Goals as goal

pub returns-clause-slots : goal.returns-clause-slots
returns-clause-slots c = all_early

pub returns-clause-sizes : goal.returns-clause-sizes
returns-clause-sizes c = all_sized

pub returns-clause-temporaries : goal.returns-clause-temporaries
returns-clause-temporaries c = temporaries_unplaced

pub returns-clause-cells : goal.returns-clause-cells
returns-clause-cells c = cells_apart
