use Rattle.pass_elide_edges.proofs.AllApart.{all_apart}
use Rattle.pass_elide_edges.proofs.apart.others_keep_apart.Goals as goal

pub returns : goal.returns
returns c = λ e x y t u rows others given known h. all_apart t u given e x y rows others known h
