-- Worked examples: scripts of hostile guests, and what each prints.
use Rattle.std.specs.Prelude.{ℕ, zero, suc, ◌+◌, List, [], ◌∷◌, ◌++◌, codes}
use Rattle.vs_report.specs.{Answers.Answer, Report.only_dropped}

-- The available index jumps, and the device stays failed.
abbrev pub available_index_jumps : List ℕ
available_index_jumps =
    codes "memory 4096 65536\nrings 8\nindex tx 9\nturn\nturn\n"

abbrev pub available_index_jumps_answer : Answer
available_index_jumps_answer = record {
  lines =
      codes "ok\n" ∷ codes "ok\n" ∷ codes "ok\n" ∷ codes "failed AvailJump 0 9\n" ∷ codes "failed AvailJump 0 9\n" ∷
      codes "device open 0\n" ∷ only_dropped 0 ∷ [];
  status = 7;
}

-- A descriptor whose address lies outside the memory.
abbrev pub address_out_of_memory : List ℕ
address_out_of_memory =
    codes "memory 4096 65536\nrings 8\ndesc tx 0 69600 44 0 0\ngive tx 0 0\nindex tx 1\nturn\n"

abbrev pub address_out_of_memory_answer : Answer
address_out_of_memory_answer = record {
  lines =
      codes "ok\n" ∷ codes "ok\n" ∷ codes "ok\n" ∷ codes "ok\n" ∷ codes "ok\n" ∷ codes "failed AddrRange 69600 44\n" ∷
      codes "device open 0\n" ∷ only_dropped 0 ∷ [];
  status = 7;
}

-- A script of a memory and three queues of 8 descriptors, some lines, and a turn.
abbrev pub attack : List ℕ → List ℕ
attack lines = codes "memory 4096 65536\nrings 8\n" ++ lines ++ codes "turn\n"

-- So many lines that print `ok`.
abbrev pub oks : ℕ → List (List ℕ)
oks zero = []
oks (suc n) = codes "ok\n" ∷ oks n

-- What it prints where so many lines print `ok` and the turn fails: the failure with its values, and the report of a device without
-- connections.
abbrev pub failing : ℕ → List ℕ → Answer
failing n failure = record {
  lines =
      oks (n + 2) ++ (codes "failed " ++ failure ++ codes "\n") ∷ codes "device open 0\n" ∷ only_dropped 0 ∷ [];
  status = 7;
}

-- A device without rx chains owes an RST to a flow that nobody has.
abbrev pub unknown_flow : List ℕ
unknown_flow =
    codes "packet 20480 3 2 2000 52 0 1 7 0 65536 0 -\ndesc tx 0 20480 44 0 0\ngive tx 0 0\nindex tx 1\n"

-- What it prints where the rx chain for that RST fails.
abbrev pub failing_reply : List ℕ → Answer
failing_reply failure = failing 6 failure

-- A length that is changed after the device read it plays no part.
abbrev pub length_changed : List ℕ
length_changed =
    codes "memory 4096 65536\nrings 8\nhost listen 52\npacket 8192 3 2 1024 52 0 1 1 0 65536 0 -\n"
    ++ codes "desc tx 0 8192 44 0 0\ngive tx 0 0\nindex tx 1\ndesc rx 0 16384 4096 2 0\ngive rx 0 0\nindex rx 1\nturn\n"
    ++ codes "packet 12288 3 2 1024 52 1 1 5 0 65536 0 7879\ndesc tx 1 12288 46 0 0\ngive tx 1 1\nindex tx 2\n"
    ++ codes "before 5 12312 02000000\nturn\n"

abbrev pub length_changed_answer : Answer
length_changed_answer = record {
  lines =
      oks 10 ++ (codes "turned 1 1 0 0 1 0\n" ∷ (oks 5 ++ (codes "turned 1 0 0 1 0 0\n" ∷ codes "device open 1\n" ∷
      codes "stream 1 1024 52 wrote 0 - read 1 78\n" ∷ only_dropped 0 ∷ [])));
  status = 0;
}

-- Packets of unknown flows get RST, one from another CID is dropped and counted.
abbrev pub wrong_flows : List ℕ
wrong_flows =
    codes "memory 4096 65536\nrings 8\nhost listen 52\ndesc rx 0 8192 4096 2 0\ngive rx 0 0\n"
    ++ codes "desc rx 1 12288 4096 2 0\ngive rx 1 1\ndesc rx 2 16384 4096 2 0\ngive rx 2 2\nindex rx 3\n"
    ++ codes "packet 20480 3 2 1024 52 0 1 1 0 65536 0 -\npacket 24576 3 2 2000 52 1 1 5 0 65536 0 78\n"
    ++ codes "packet 28672 3 2 2001 52 0 7 1 0 65536 0 -\npacket 32768 4 2 1024 52 1 1 5 0 65536 0 78\n"
    ++ codes "desc tx 0 20480 44 0 0\ndesc tx 1 24576 45 0 0\ndesc tx 2 28672 44 0 0\ndesc tx 3 32768 45 0 0\n"
    ++ codes "give tx 0 0\ngive tx 1 1\ngive tx 2 2\ngive tx 3 3\nindex tx 4\nturn\nlook 8192 44\n"

abbrev pub wrong_flows_answer : Answer
wrong_flows_answer = record {
  lines =
      oks 23 ++ (codes "turned 4 3 0 0 1 0\n" ∷
      codes "bytes 0200000000000000030000000000000034000000d00700000000000001000300000000000000000000000000\n" ∷
      codes "device open 1\n" ∷ codes "stream 1 1024 52 wrote 0 - read 0 -\n" ∷ only_dropped 1 ∷ []);
  status = 0;
}

-- A second REQUEST ends its connection: the bytes delivered before are written, and it gets RST.
abbrev pub pending_bytes : List ℕ
pending_bytes =
    codes "memory 4096 65536\nrings 8\nhost listen 52\ndesc rx 0 8192 4096 2 0\ngive rx 0 0\n"
    ++ codes "desc rx 1 12288 4096 2 0\ngive rx 1 1\nindex rx 2\npacket 20480 3 2 1024 52 0 1 1 0 65536 0 -\n"
    ++ codes "desc tx 0 20480 44 0 0\ngive tx 0 0\nindex tx 1\nturn\npacket 20480 3 2 1024 52 2 1 5 0 65536 0 6869\n"
    ++ codes "packet 24576 3 2 1024 52 0 1 1 0 65536 0 -\ndesc tx 1 20480 46 0 0\ndesc tx 2 24576 44 0 0\ngive tx 1 1\n"
    ++ codes "give tx 2 2\nindex tx 3\nturn\n"

abbrev pub pending_bytes_answer : Answer
pending_bytes_answer = record {
  lines =
      oks 12 ++ (codes "turned 1 1 0 0 1 0\n" ∷ (oks 7 ++ (codes "turned 2 1 0 2 0 1\n" ∷ codes "device open 0\n" ∷
      codes "stream 1 1024 52 wrote 0 - read 2 6869\n" ∷ only_dropped 0 ∷ [])));
  status = 0;
}

-- A failure is answered again by each turn and by a reset.
abbrev pub failure_stays : List ℕ
failure_stays = codes "memory 4096 65536\nrings 8\nindex tx 9\nturn\nindex tx 0\nturn\nreset 9\nturn\n"

abbrev pub failure_stays_answer : Answer
failure_stays_answer = record {
  lines =
      oks 3 ++ (codes "failed AvailJump 0 9\n" ∷ codes "ok\n" ∷ codes "failed AvailJump 0 9\n" ∷ codes "failed AvailJump 0 9\n" ∷
      codes "failed AvailJump 0 9\n" ∷ codes "device open 0\n" ∷ only_dropped 0 ∷ []);
  status = 7;
}
