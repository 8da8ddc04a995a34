use Rattle.dns_record.proofs.WrittenRecords.{back_A, back_Aaaa, back_Ptr, back_Cname, back_Srv, back_Txt, back_Nsec, back_Raw}
use Rattle.dns_record.proofs.write.put_rdata.Goals as goal

pub returns-in_ok-put_ipv4-in-A-clause-read : goal.returns-in_ok-put_ipv4-in-A-clause-read
returns-in_ok-put_ipv4-in-A-clause-read c = λ valid. rw c.in-A.is (back_A _ c.put_ipv4.ensures.read)

pub returns-in_ok-put_ipv6-in-Aaaa-clause-read : goal.returns-in_ok-put_ipv6-in-Aaaa-clause-read
returns-in_ok-put_ipv6-in-Aaaa-clause-read c = λ valid. rw c.in-Aaaa.is (back_Aaaa _ c.put_ipv6.ensures.read)

pub returns-in_ok-put_srv-in-Srv-clause-read : goal.returns-in_ok-put_srv-in-Srv-clause-read
returns-in_ok-put_srv-in-Srv-clause-read c = λ valid. rw c.in-Srv.is (back_Srv _ _ _ _ c.in_ok-put_srv-in-Srv.ensures.read)

pub returns-in_ok-put_name-in-Ptr-clause-read : goal.returns-in_ok-put_name-in-Ptr-clause-read
returns-in_ok-put_name-in-Ptr-clause-read c = λ valid. rw c.in-Ptr.is (back_Ptr _ c.put_name.ensures.read)

pub returns-in_ok-put_name-in-Cname-clause-read : goal.returns-in_ok-put_name-in-Cname-clause-read
returns-in_ok-put_name-in-Cname-clause-read c = λ valid. rw c.in-Cname.is (back_Cname _ c.put_name-in-Cname.ensures.read)

pub returns-in_ok-put_hex-in-Nsec-clause-read : goal.returns-in_ok-put_hex-in-Nsec-clause-read
returns-in_ok-put_hex-in-Nsec-clause-read c =
    λ valid. rw c.in-Nsec.is (back_Nsec _ _ c.put_name-in-Nsec.ensures.read (rw c.as_slice.ensures at c.put_hex.ensures.read))

pub returns-in_ok-put_hex-in-Txt-clause-read : goal.returns-in_ok-put_hex-in-Txt-clause-read
returns-in_ok-put_hex-in-Txt-clause-read c =
    λ valid. rw c.in-Txt.is (back_Txt _ (rw c.as_slice-in-Txt.ensures at c.put_hex-in-Txt.ensures.read))

pub returns-in_ok-put_hex-in-Raw-clause-read : goal.returns-in_ok-put_hex-in-Raw-clause-read
returns-in_ok-put_hex-in-Raw-clause-read c =
    λ valid. rw c.in-Raw.is (back_Raw _ _ (rw c.in-Raw.is at valid) (rw c.as_slice-in-Raw.ensures at c.put_hex-in-Raw.ensures.read))
