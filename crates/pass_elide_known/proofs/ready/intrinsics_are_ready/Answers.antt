use Rattle.pass_elide_known.proofs.ReadyPlaces.{look_ready, marker_ready, waking_ready}
use Rattle.pass_elide_known.proofs.ready.intrinsics_are_ready.Goals as goal

pub returns-clause-markers : goal.returns-clause-markers
returns-clause-markers c = λ e s u r j result must_tail ty args keeps known giving runs fine there is.
    marker_ready e keeps s known runs fine u r giving j result must_tail ty args there is

pub returns-clause-looks : goal.returns-clause-looks
returns-clause-looks c = λ e s u r j result must_tail ty args keeps known giving runs fine there is.
    look_ready e keeps s known runs fine u r giving result must_tail ty args j there is

pub returns-clause-wakings : goal.returns-clause-wakings
returns-clause-wakings c = λ e s u r j result must_tail ty args keeps known giving runs fine there is.
    waking_ready e keeps s known runs fine u r giving result must_tail ty args j there is
