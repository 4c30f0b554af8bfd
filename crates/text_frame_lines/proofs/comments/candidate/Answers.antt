use Rattle.std.proofs.Common.{None, Some, refl, sym, ◌∙◌}
use Rattle.std.specs.Prelude.{codes}
use Rattle.std.proofs.lemmas.Bool.Decides.{Decides-eqb}
use Rattle.std.proofs.lemmas.Slice.Eq.{strip_prefix_is}
use Rattle.text_names.specs.Spelling.{spelling}
use Rattle.text_frame_lines.proofs.Leading.{before_align, before_index, before_size, none_is_some, same_behind, same_frame, same_name}
use Rattle.text_frame_lines.proofs.comments.candidate.Goals as goal

pub returns-in_default-clause-found : goal.returns-in_default-clause-found
returns-in_default-clause-found c = λ f h e.
    absurd (c.in_default.ensures (before_index f) (codes "index") f.index refl h.3 e)

pub returns-in_default-number_behind-clause-found : goal.returns-in_default-number_behind-clause-found
returns-in_default-number_behind-clause-found c = λ f h e.
    let index = c.in-Some.ensures (before_index f) (codes "index") f.index refl h.3 e in
    absurd (c.in_default-number_behind.ensures (before_align f) (codes "align") f.align refl h.2 index.0)

pub returns-in_default-number_behind-2-clause-found : goal.returns-in_default-number_behind-2-clause-found
returns-in_default-number_behind-2-clause-found c = λ f h e.
    let index = c.in-Some.ensures (before_index f) (codes "index") f.index refl h.3 e in
    let align = c.in-Some-number_behind.ensures (before_align f) (codes "align") f.align refl h.2 index.0 in
    absurd (c.in_default-number_behind-2.ensures (before_size f) (codes "size") f.size refl h.1 align.0)

pub returns-in_default-strip_prefix-clause-found : goal.returns-in_default-strip_prefix-clause-found
returns-in_default-strip_prefix-clause-found c = λ f h e.
    let index = c.in-Some.ensures (before_index f) (codes "index") f.index refl h.3 e in
    let align = c.in-Some-number_behind.ensures (before_align f) (codes "align") f.align refl h.2 index.0 in
    let size = c.in-Some-number_behind-2.ensures (before_size f) (codes "size") f.size refl h.1 align.0 in
    absurd (strip_prefix_is Decides-eqb c.in-Some-number_behind-2.line.now (codes "; frame @") None c.in_default-strip_prefix.ensures.cases (spelling f.name) size.0)

pub returns-in_default-2-clause-found : goal.returns-in_default-2-clause-found
returns-in_default-2-clause-found c = λ f h e.
    let index = c.in-Some.ensures (before_index f) (codes "index") f.index refl h.3 e in
    let align = c.in-Some-number_behind.ensures (before_align f) (codes "align") f.align refl h.2 index.0 in
    let size = c.in-Some-number_behind-2.ensures (before_size f) (codes "size") f.size refl h.1 align.0 in
    let behind = strip_prefix_is Decides-eqb c.in-Some-number_behind-2.line.now (codes "; frame @") (Some c.in-Some-strip_prefix.name) c.in-Some-strip_prefix.ensures.cases in
    let spelled = same_behind c.in-Some-strip_prefix.name.now (spelling f.name) (sym behind ∙ size.0) in
    let name = c.in_ok-name.ensures.found f.name h.0 spelled in
    absurd (none_is_some f.name (sym c.in_default-2.is ∙ name))

pub returns-clause-found : goal.returns-clause-found
returns-clause-found c = λ f h e.
    let index = c.in-Some.ensures (before_index f) (codes "index") f.index refl h.3 e in
    let align = c.in-Some-number_behind.ensures (before_align f) (codes "align") f.align refl h.2 index.0 in
    let size = c.in-Some-number_behind-2.ensures (before_size f) (codes "size") f.size refl h.1 align.0 in
    let behind = strip_prefix_is Decides-eqb c.in-Some-number_behind-2.line.now (codes "; frame @") (Some c.in-Some-strip_prefix.name) c.in-Some-strip_prefix.ensures.cases in
    let spelled = same_behind c.in-Some-strip_prefix.name.now (spelling f.name) (sym behind ∙ size.0) in
    let name = c.in_ok-name.ensures.found f.name h.0 spelled in
    same_frame f c.in-Some-2.name c.in-Some-number_behind-2.size c.in-Some-number_behind.align c.in-Some.index
    (same_name c.in-Some-2.name f.name (sym c.in-Some-2.is ∙ name)) size.1 align.1 index.1
