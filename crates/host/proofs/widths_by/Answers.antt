use Rattle.host.proofs.InPlace.{widths_in_place}
use Rattle.host.proofs.widths_by.Goals as goal

pub returns : goal.returns
returns c =
    widths_in_place _ _ _ _ _ c.requires c.read_words.ensures c.read_words.auto.buf
    c.fsk_widths.ensures c.fsk_widths.auto.slots c.write_words.ensures
