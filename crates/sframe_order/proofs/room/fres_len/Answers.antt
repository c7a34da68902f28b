use Rattle.sframe_order.proofs.Views.{short_at, sound_at}
use Rattle.sframe_order.proofs.room.fres_len.Goals as goal

pub fres_len_of-requires-clause-sound : goal.fres_len_of-requires-clause-sound
fres_len_of-requires-clause-sound c = sound_at _ _ _ c.requires.sound c.loop-contribution-test.true c.contribution-item.is

pub fres_len_of-requires-clause-short : goal.fres_len_of-requires-clause-short
fres_len_of-requires-clause-short c = short_at _ _ _ c.requires.short c.loop-contribution-test.true c.contribution-item.is
