use Rattle.pass_elide_proof.proofs.Given.{given_of, own_of}
use Rattle.pass_elide_proof.proofs.PlacingCalls.{alloc_place, constant_place, free_place, save_place, suspend_place}
use Rattle.pass_elide_proof.proofs.Slotted.{frame_allocated}
use Rattle.pass_elide_proof.specs.Elision.{elided}
use Rattle.pass_elide_proof.proofs.placing.intrinsic_places_are_known.Goals as goal

pub returns-clause-constants : goal.returns-clause-constants
returns-clause-constants c = λ e s t j result must_tail ty args r keeps by at is.
    constant_place e keeps s t r.top.func by j result must_tail ty args at is

pub returns-clause-alloc : goal.returns-clause-alloc
returns-clause-alloc c = λ e s t result must_tail ty args r keeps by shapes at.
    alloc_place e keeps s t r.top.func by shapes result must_tail ty args at

pub returns-clause-free : goal.returns-clause-free
returns-clause-free c = λ e s t result must_tail ty args r keeps by shapes slotted second at.
    free_place e keeps s t r.top.func by shapes result must_tail ty args (frame_allocated s slotted)
    (given_of (elided e) t second) (own_of (elided e) t second) at

pub returns-clause-save : goal.returns-clause-save
returns-clause-save c = λ e s t result must_tail ty args r keeps by may at.
    save_place e keeps s t r.top.func by may result must_tail ty args at

pub returns-clause-suspend : goal.returns-clause-suspend
returns-clause-suspend c = λ e s t result must_tail ty args r keeps by may at.
    suspend_place e keeps s t r.top.func by result must_tail ty args may at
