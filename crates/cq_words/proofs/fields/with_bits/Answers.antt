use Rattle.cq_words.proofs.MaskedWrites.{masked_in}
use Rattle.cq_words.proofs.fields.with_bits.Goals as goal

pub returns : goal.returns
returns c =
    masked_in c.args.word c.args.low c.args.width c.args.value c.ranges.word.fits c.requires.narrow c.requires.within c.requires.fits
