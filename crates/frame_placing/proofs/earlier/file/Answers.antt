use Rattle.frame_placing.proofs.Places.{put_back}
use Rattle.frame_placing.proofs.earlier.file.Goals as goal

pub returns : goal.returns
returns c = put_back c.args.rows.now.items (λ row. row.items) c.args.row c.args.k c.index_mut.result.now c.push.new.self c.requires c.index_mut.ensures.value c.in_ok-push.ensures.items
