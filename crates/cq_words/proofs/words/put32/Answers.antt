use Rattle.byteorder.specs.Endian.{little_bytes}
use Rattle.cq_words.proofs.WordWrites.{put_word}
use Rattle.cq_words.proofs.words.put32.Goals as goal

pub returns : goal.returns
returns c = put_word c.args.at 4 c.args.bytes.now c.write_u32.new.buf (little_bytes 4 c.args.value) c.requires c.write_u32.ensures
