use Rattle.pass_frames_proof.proofs.beginning.States.{begin_followed}
use Rattle.pass_frames_proof.proofs.beginning.begins_are_followed.Goals as goal

pub returns : goal.returns
returns c = λ b g given s t r result must_tail ty id u memory block h listed mine theirs apart led live. begin_followed
    (record {
      b = b;
      g = g;
      given = given;
      s = s;
      t = t;
      r = r;
      result = result;
      must_tail = must_tail;
      ty = ty;
      id = id;
      typed = u;
      memory = memory;
      block = block;
      h = h;
      listed = listed;
      mine = mine;
      theirs = theirs;
      apart = apart;
      led = led;
      live = live;
    })
