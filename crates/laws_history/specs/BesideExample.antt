-- An RST that comes before any REQUEST between two guests, as both ends have it.
use Rattle.std.specs.Prelude.{[], ◌∷◌}
use Rattle.vs_header.specs.{Kind.kind_number, Op.op_number, declared.{Kind.{Kind, TheVariants.{Seqpacket, Stream}}, Op.{Op, TheVariants.{Request, Response, Rst}}}}
use Rattle.vs_limits.specs.declared.TheConstants.{BUF_ALLOC}
use Rattle.laws_history.specs.{declared.packet.Packet.Packet, History.{Got, History, Put}}

abbrev pub without_payload : Op → Kind → Packet
without_payload o kind = record {
  header = record {
    src_cid = 3;
    dst_cid = 4;
    src_port = 1024;
    dst_port = 70;
    len = 0;
    kind = kind_number kind;
    op = op_number o;
    flags = 0;
    buf_alloc = BUF_ALLOC;
    fwd_cnt = 0;
  };
  payload = [];
}

abbrev pub request : Packet
request = without_payload Request Stream

abbrev pub response : Packet
response = without_payload Response Stream

abbrev pub stray : Packet
stray = without_payload Rst Seqpacket

-- The end that answers put the RST before the REQUEST came, and then its RESPONSE. The one that asks got it after its REQUEST was put.
abbrev pub answering : History
answering = Put response ∷ Got request ∷ Put stray ∷ []

abbrev pub asking : History
asking = Got response ∷ Got stray ∷ Put request ∷ []
