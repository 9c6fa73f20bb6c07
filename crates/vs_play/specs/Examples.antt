-- Worked examples: scripts, and what each prints.
use Rattle.std.specs.Prelude.{ℕ, List, [], ◌∷◌, ◌++◌, codes}
use Rattle.vs_report.specs.{Answers.Answer, Report.nothing_counted}

-- A client of the host connects, both sides talk, and the device tells of more buffer space.
abbrev pub client : List ℕ
client =
    codes "listen 1234\nclient\nhost write 1 434f4e4e45435420313233340a616263\nturn\npoll\n"
    ++ codes "accept 1234\nsend 1 78\nturn\npoll\nrecv 1 10\nhost grow 1 70000\nhost grow 1 65536\nturn\npoll\n"

abbrev pub client_answer : Answer
client_answer = record {
  status = 0;
  lines =
      codes "ok\n" ∷ codes "stream 1\n" ∷ codes "ok\n" ∷ codes "turned 0 1 13 0 1 0\n" ∷ codes "polled 1 1 0\n" ∷
      codes "conn 1 on 1234 1073741824\n" ∷ codes "took 1\n" ∷ codes "turned 2 1 3 15 0 0\n" ∷ codes "polled 1 0 0\n" ∷
      codes "got 3 616263\n" ∷ codes "ok\n" ∷ codes "shrinks 70000\n" ∷ codes "turned 0 1 0 0 0 0\n" ∷ codes "polled 1 0 0\n" ∷
      codes "guest open 1\n" ∷ codes "device open 1\n" ∷
      codes "stream 1 1234 1073741824 wrote 3 616263 read 1 78\n" ∷ nothing_counted ∷ [];
}

-- A transport reset ends the connections, and keeps the listeners.
abbrev pub resets : List ℕ
resets =
    codes "host listen 52\nlisten 70\nconnect 52\nconnect 52\nturn\npoll\nhost write 1 78\nturn\n"
    ++ codes "reset 9\nturn\npoll\nturn\nrecv 1 1\nlisten 70\nconnect 52\nturn\n"

abbrev pub resets_answer : Answer
resets_answer = record {
  status = 0;
  lines =
      codes "ok\n" ∷ codes "ok\n" ∷ codes "conn 1 on 1024 52\n" ∷ codes "conn 2 on 1025 52\n" ∷ codes "turned 2 2 0 0 2 0\n" ∷
      codes "polled 2 0 0\n" ∷ codes "ok\n" ∷ codes "turned 0 1 1 0 0 0\n" ∷ codes "ok\n" ∷ codes "turned 0 0 0 0 0 0\n" ∷
      codes "polled 1 3 1\n" ∷ codes "turned 3 0 0 0 0 0\n" ∷ codes "reset\n" ∷ codes "taken\n" ∷ codes "conn 3 on 1026 52\n" ∷
      codes "turned 1 1 0 0 1 0\n" ∷ codes "guest open 1\n" ∷ codes "device open 1\n" ∷
      codes "stream 1 1024 52 wrote 1 78 read 0 -\n" ∷ codes "stream 2 1025 52 wrote 0 - read 0 -\n" ∷
      codes "stream 3 1026 52 wrote 0 - read 0 -\n" ∷ nothing_counted ∷ [];
}

-- The host closed its stream and ended it; then the connection times out.
abbrev pub timeout : List ℕ
timeout =
    codes "host listen 52\nconnect 52\nturn\npoll\nhost end 1\nhost closed 1\n"
    ++ codes "send 1 78\nturn\ntick 2000\nturn\npoll\nstate 1\n"

abbrev pub timeout_answer : Answer
timeout_answer = record {
  status = 0;
  lines =
      codes "ok\n" ∷ codes "conn 1 on 1024 52\n" ∷ codes "turned 1 1 0 0 1 0\n" ∷ codes "polled 1 0 0\n" ∷ codes "ok\n" ∷
      codes "ok\n" ∷ codes "took 1\n" ∷ codes "turned 1 1 0 0 0 0\n" ∷ codes "ok\n" ∷ codes "turned 0 1 0 0 0 1\n" ∷
      codes "polled 2 0 0\n" ∷ codes "gone\n" ∷ codes "guest open 0\n" ∷ codes "device open 0\n" ∷
      codes "stream 1 1024 52 wrote 0 - read 0 -\n" ∷ nothing_counted ∷ [];
}

-- An odd number of hex digits.
abbrev pub bad_hex : List ℕ
bad_hex = codes "send 1 6\n"

abbrev pub bad_hex_answer : Answer
bad_hex_answer = record {
  status = 2;
  lines =
      codes "line 1 BadHex\n" ∷ [];
}
