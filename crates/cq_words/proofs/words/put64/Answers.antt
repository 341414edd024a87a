use Rattle.byteorder.specs.Endian.{little_bytes}
use Rattle.cq_words.proofs.WordWrites.{put_word}
use Rattle.cq_words.proofs.words.put64.Goals as goal

pub returns : goal.returns
returns c = put_word c.args.at 8 c.args.bytes.now c.write_u64.new.buf (little_bytes 8 c.args.value) c.requires c.write_u64.ensures
